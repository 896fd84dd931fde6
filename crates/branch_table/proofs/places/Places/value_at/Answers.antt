use Rattle.std.proofs.Common.{◌∙◌, Some, sym, ap}
use Rattle.std.specs.Option.{unwrap_or}
use Rattle.branch_table.specs.Parts.{no_place, place_at}
use Rattle.branch_table.proofs.PlaceTable.{place_is}
use Rattle.branch_table.proofs.TableRows.{table_at}
use Rattle.branch_table.proofs.places.Places.value_at.Goals as goal

pub returns-in_default : goal.returns-in_default
returns-in_default c =
    let key = c.args.key.now in
    table_at c.args.self.now key ∙ ap (λ ps. (place_at ps key).value) (sym c.self.view_is)
    ∙ ap (λ p. p.value) (place_is (λ k. k.items) key c.self.inside.known.entries)
    ∙ ap (λ o. (unwrap_or o no_place).value) (sym c.in_default.ensures.value)

pub returns-in-Some-value : goal.returns-in-Some-value
returns-in-Some-value c =
    let key = c.args.key.now in
    table_at c.args.self.now key ∙ ap (λ ps. (place_at ps key).value) (sym c.self.view_is)
    ∙ ap (λ p. p.value) (place_is (λ k. k.items) key c.self.inside.known.entries)
    ∙ ap (λ o. (unwrap_or o no_place).value) (sym c.in-Some.ensures.value) ∙ c.in-Some-value.is ∙ ap Some (sym c.as_slice.ensures)

pub returns-in-None : goal.returns-in-None
returns-in-None c =
    let key = c.args.key.now in
    table_at c.args.self.now key ∙ ap (λ ps. (place_at ps key).value) (sym c.self.view_is)
    ∙ ap (λ p. p.value) (place_is (λ k. k.items) key c.self.inside.known.entries)
    ∙ ap (λ o. (unwrap_or o no_place).value) (sym c.in-Some.ensures.value) ∙ c.in-None.is
