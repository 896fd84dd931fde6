use Rattle.std.proofs.Common.{◌∙◌, Some, None, sym, ap, cond}
use Rattle.protocol.specs.Managers.{idle_keys}
use Rattle.branch_table.proofs.OutcomeSteps.{idle_from, idle_of}
use Rattle.branch_table.proofs.table.BranchTable.prepare.Goals as goal

pub returns-in_default-clause-ok : goal.returns-in_default-clause-ok
returns-in_default-clause-ok c =
    let x = c.args.xid.now in
    sym (ap (λ t. idle_keys t.branches x) (sym c.self.view_is) ∙ idle_from c.self.inside.branches x c.self.invariant.0.distinct
    ∙ ap idle_of (sym c.in_default.ensures))

pub returns-then-not-is_idle-clause-ok : goal.returns-then-not-is_idle-clause-ok
returns-then-not-is_idle-clause-ok c =
    let x = c.args.xid.now in
    sym (ap (λ t. idle_keys t.branches x) (sym c.self.view_is) ∙ idle_from c.self.inside.branches x c.self.invariant.0.distinct
    ∙ ap idle_of (sym c.in-Some.ensures) ∙ ap (λ i. cond i (Some c.in-Some.branch.now.keys) None) (sym c.if-not-is_idle.ensures))

pub returns-clause-ok : goal.returns-clause-ok
returns-clause-ok c =
    let x = c.args.xid.now in
    let keys = c.new.ensures ∙ c.in_ok-keys.ensures.ok ∙ c.keys.ensures.value in
    sym (ap (λ t. idle_keys t.branches x) (sym c.self.view_is) ∙ idle_from c.self.inside.branches x c.self.invariant.0.distinct
    ∙ ap idle_of (sym c.in-Some.ensures) ∙ ap (λ i. cond i (Some c.in-Some.branch.now.keys) None) (sym c.if-not-is_idle.ensures)
    ∙ ap Some (sym keys))
