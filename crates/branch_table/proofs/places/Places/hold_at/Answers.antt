use Rattle.std.proofs.Common.{◌∙◌, sym, ap}
use Rattle.std.specs.Option.{unwrap_or}
use Rattle.branch_table.specs.Parts.{hold_at, no_place}
use Rattle.branch_table.proofs.PlaceTable.{place_is}
use Rattle.branch_table.proofs.places.Places.hold_at.Goals as goal

pub returns-in-Some : goal.returns-in-Some
returns-in-Some c =
    let key = c.args.key.now in
    ap (λ o. (unwrap_or o no_place).hold) c.in-Some.ensures.value
    ∙ sym (ap (λ p. p.hold) (place_is (λ k. k.items) key c.self.inside.known.entries)) ∙ ap (λ ps. hold_at ps key) c.self.view_is

pub returns-in-None : goal.returns-in-None
returns-in-None c =
    let key = c.args.key.now in
    c.free.ensures ∙ ap (λ o. (unwrap_or o no_place).hold) c.in-None.ensures.value
    ∙ sym (ap (λ p. p.hold) (place_is (λ k. k.items) key c.self.inside.known.entries)) ∙ ap (λ ps. hold_at ps key) c.self.view_is
