use Rattle.std.proofs.Common.{sym, subst}
use Rattle.node_core.specs.declared.role.Role.{Role}
use Rattle.node_core.specs.Viewing.{TellsUnused}
use Rattle.node_core.proofs.Looking.{leader_tells}
use Rattle.node_core.proofs.role.Role.is_unused_above.Goals as goal

pub returns-in-Leader : goal.returns-in-Leader
returns-in-Leader c =
    subst (λ (role : Role). TellsUnused c.args.floor.now role c.is_unused_above-in-Leader.result) (sym c.in-Leader.is)
    (leader_tells c.args.floor.now c.in-Leader.leader c.is_unused_above-in-Leader.result c.is_unused_above-in-Leader.ensures)
