use Rattle.std.proofs.Common.{◌∙◌, sym, ap}
use Rattle.branch_table.specs.Parts.{branch_of}
use Rattle.branch_table.specs.TableStates.{branch_named}
use Rattle.branch_table.proofs.CallSteps.{rollback_absent, rollback_done, rollback_refused}
use Rattle.branch_table.proofs.table.BranchTable.rollback.Goals as goal

pub returns-in_default-clause-steps : goal.returns-in_default-clause-steps
returns-in_default-clause-steps c = rw (← c.self.view_is) (rollback_absent _ c.args.xid.now (sym c.in_default.ensures))

pub returns-then-not-can_be_rolled_back-clause-steps : goal.returns-then-not-can_be_rolled_back-clause-steps
returns-then-not-can_be_rolled_back-clause-steps c =
    let x = c.args.xid.now in
    rw (← c.self.view_is)
    (rollback_refused _ x (branch_of x c.in-Some.branch.now) (sym c.in-Some.ensures) (sym c.if-not-can_be_rolled_back.ensures))

pub returns-clause-steps : goal.returns-clause-steps
returns-clause-steps c =
    let x = c.args.xid.now in
    let found = ap (λ t. branch_named t.branches x) (sym c.self.view_is) ∙ sym c.in-Some.ensures in
    let left = c.undo.ensures.left in
    rollback_done c.args.self.now c.undo.new.self x (branch_of x c.in-Some.branch.now) found (sym c.if-not-can_be_rolled_back.ensures)
    left.branches left.rows
