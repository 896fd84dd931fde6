use Rattle.std.proofs.Common.{◌∙◌, refl, sym, ap}
use Rattle.std.specs.Option.{option_map}
use Rattle.std.specs.Prelude.{slice_get}
use Rattle.transactions.proofs.Keys.{got_tx, taken_at, taken_is, none_is}
use Rattle.transactions.proofs.numbers.Transactions.get.Goals as goal

pub returns-in_default-take_tx : goal.returns-in_default-take_tx
returns-in_default-take_tx c =
    absurd (taken_at (λ key. key) c.in-Some.spelled.now c.in-Some.spelled.now c.self.inside.spelled c.args.number
    c.self.invariant.spelled (sym c.get.ensures ∙ ap (option_map (λ key. key.now)) c.in-Some.is) refl
    (none_is c.in-Some.spelled.now c.in_default-take_tx.ensures))

pub returns : goal.returns
returns c =
    got_tx (λ key. key) c.in-Some.spelled.now c.in-Some.spelled.now c.self.inside.spelled c.args.number c.in-Some-take_tx.taken.0
    c.in-Some-take_tx.taken.1.now c.self.invariant.spelled
    (sym c.get.ensures ∙ ap (option_map (λ key. key.now)) c.in-Some.is) refl
    (taken_is c.in-Some.spelled.now c.in-Some-take_tx.taken.0 c.in-Some-take_tx.taken.1.now c.in-Some-take_tx.ensures)
    ∙ ap (λ ts. slice_get ts c.args.number) c.self.view_is
