use Rattle.std.proofs.Common.{◌≤◌, [], length}
use Rattle.protocol.specs.Effects.{Config}
use Rattle.protocol.specs.Nodes.{empty_memory}
use Rattle.protocol.specs.declared.nodes.NodeId.{NodeId}
use Rattle.node_core.specs.Roles.{RoleStands}
use Rattle.node_core.specs.Opening.{HasPlayedTo}
use Rattle.node_core.proofs.records.replay.Given as goal

abbrev pub invariant-loop-after : goal.invariant-loop-after
invariant-loop-after l = record {
  read : (config : Config) (who : NodeId) → RoleStands config who l.fn.role [] empty_memory
      → HasPlayedTo config who l.compacted l.bytes l.rest l.role;
  few : length l.rest ≤ length l.bytes;
}

abbrev pub decreases-loop-after : goal.decreases-loop-after
decreases-loop-after l = length l.rest
