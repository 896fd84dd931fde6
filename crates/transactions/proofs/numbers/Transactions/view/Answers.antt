use Rattle.std.proofs.Common.{◌∙◌, refl, sym, ap}
use Rattle.std.specs.Prelude.{slice_get}
use Rattle.transactions.proofs.Keys.{got_tx, taken_at, taken_is, none_is}
use Rattle.transactions.proofs.numbers.Transactions.view.Goals as goal

pub returns-in_err-tx : goal.returns-in_err-tx
returns-in_err-tx c =
    absurd (taken_at (λ key. key) c.in_ok-spelled.spelled.now c.in_ok-spelled.spelled.now c.self.inside.spelled c.args.number
    c.self.invariant.spelled (sym c.in_ok-spelled.ensures) refl (none_is c.in_ok-spelled.spelled.now c.in_err-tx.ensures))

pub returns : goal.returns
returns c =
    got_tx (λ key. key) c.in_ok-spelled.spelled.now c.in_ok-spelled.spelled.now c.self.inside.spelled c.args.number c.in_ok-tx.tx
    c.in_ok-tx.field-0-1.now c.self.invariant.spelled (sym c.in_ok-spelled.ensures) refl
    (taken_is c.in_ok-spelled.spelled.now c.in_ok-tx.tx c.in_ok-tx.field-0-1.now c.in_ok-tx.ensures)
    ∙ ap (λ ts. slice_get ts c.args.number) c.self.view_is
