use Rattle.std.proofs.Common.{Some, None, refl, sym, subst}
use Rattle.branch_table.specs.Parts.{branch_of, Replaces}
use Rattle.branch_table.proofs.CallSteps.{start_done, start_exists}
use Rattle.branch_table.proofs.Found.{found_none, found_some}
use Rattle.branch_table.proofs.TableKept.{kept_started}
use Rattle.branch_table.proofs.table.BranchTable.start.Goals as goal

pub returns-then-is_some-clause-ok : goal.returns-then-is_some-clause-ok
returns-then-is_some-clause-ok c =
    let x = c.args.xid.now in
    let found = found_some x c.get.result c.self.inside.branches (sym c.if-is_some.ensures) c.get.ensures in
    rw (← c.self.view_is) (start_exists _ x found.0 found.1)

pub invariant_of-self-2 : goal.invariant_of-self-2
invariant_of-self-2 c =
    let x = c.args.xid.now in
    let old = c.self.inside.branches in
    let is = subst (λ b. Replaces old c.add.new.self x None (Some (branch_of x b))) c.started.ensures c.in_ok-add.ensures.ok in
    kept_started c.self.inside.places old c.add.new.self x c.self.invariant is

pub returns-clause-ok : goal.returns-clause-ok
returns-clause-ok c =
    let x = c.args.xid.now in
    let old = c.self.inside.branches in
    let none = found_none x c.get.result old (sym c.if-is_some.ensures) c.get.ensures in
    let is = subst (λ b. Replaces old c.add.new.self x None (Some (branch_of x b))) c.started.ensures c.in_ok-add.ensures.ok in
    rw (← c.self.view_is) (start_done _ _ x none is.only refl)
