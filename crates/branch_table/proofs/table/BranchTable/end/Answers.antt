use Rattle.std.proofs.Common.{refl, sym, ap}
use Rattle.std.specs.Prelude.{is_some}
use Rattle.branch_table.specs.Parts.{branch_of}
use Rattle.branch_table.proofs.CallSteps.{end_absent, end_done, end_ended}
use Rattle.branch_table.proofs.TableKept.{kept_state, was_found}
use Rattle.branch_table.specs.TableStates.{in_state}
use Rattle.branch_table.proofs.table.BranchTable.end.Goals as goal

pub returns-in_default-clause-steps : goal.returns-in_default-clause-steps
returns-in_default-clause-steps c = rw (← c.self.view_is) (end_absent _ c.args.xid.now c.args.ending (sym c.in_default.ensures))

pub returns-then-not-is_active-clause-steps : goal.returns-then-not-is_active-clause-steps
returns-then-not-is_active-clause-steps c =
    let x = c.args.xid.now in
    rw (← c.self.view_is)
    (end_ended _ x c.args.ending (branch_of x c.in-Some.branch.now) (sym c.in-Some.ensures) (sym c.if-not-is_active.ensures))

pub invariant_of-self : goal.invariant_of-self
invariant_of-self c =
    let x = c.args.xid.now in
    kept_state c.self.inside.places c.self.inside.branches c.set_state.new.self x (branch_of x c.in-Some.branch.now)
    c.outcome-state.result.0
    c.self.invariant (sym c.in-Some.ensures) c.set_state.ensures

pub returns-clause-steps : goal.returns-clause-steps
returns-clause-steps c =
    let x = c.args.xid.now in
    let b = branch_of x c.in-Some.branch.now in
    let is = was_found c.self.inside.branches c.set_state.new.self x b (in_state c.outcome-state.result.0) (sym c.in-Some.ensures)
    c.set_state.ensures in
    rw (← c.self.view_is, c.outcome-state.ensures.code)
    (end_done _ _ x c.args.ending b (sym c.in-Some.ensures) (sym c.if-not-is_active.ensures)
    (rw (← c.outcome-state.ensures.state) is.only) refl)

pub set_state-requires : goal.set_state-requires
set_state-requires c = ap is_some (sym c.in-Some.ensures)
