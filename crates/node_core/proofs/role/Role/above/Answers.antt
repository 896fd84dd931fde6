use Rattle.std.proofs.Common.{sym, subst}
use Rattle.node_core.specs.declared.role.Role.{Role}
use Rattle.node_core.specs.Raising.{Leaves}
use Rattle.node_core.proofs.Risen.{leader_leaves, manager_leaves}
use Rattle.node_core.proofs.role.Role.above.Goals as goal

pub returns-in_ok-above-in-Leader-clause-ok : goal.returns-in_ok-above-in-Leader-clause-ok
returns-in_ok-above-in-Leader-clause-ok c =
    let left = c.in_ok-above-in-Leader in
    subst (λ (role : Role). Leaves c.args.floor.now role (Role.Leader left.field-0)) (sym c.in-Leader.is)
    (leader_leaves c.args.floor.now c.in-Leader.leader left.field-0 left.ensures.ok)

pub returns-in_ok-above-in-Manager-clause-ok : goal.returns-in_ok-above-in-Manager-clause-ok
returns-in_ok-above-in-Manager-clause-ok c =
    let left = c.in_ok-above-in-Manager in
    subst (λ (role : Role). Leaves c.args.floor.now role (Role.Manager left.field-0)) (sym c.in-Manager.is)
    (manager_leaves c.args.floor.now c.in-Manager.manager left.field-0 left.ensures.ok)
