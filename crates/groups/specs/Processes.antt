-- A process that ends and is begun again over what its record holds.
use Rattle.std.specs.Prelude.{◌≡◌, ◌≢◌, ℕ, List, Option, None}
use Rattle.xid.specs.declared.refusals.Refusal.{Refusal}
use Rattle.xid.specs.declared.refusals.Refusal.TheVariants.{Damaged}
use Rattle.stable_record.specs.Held.{Held}
use Rattle.protocol.specs.declared.answers.Answer.TheVariants.{Done}
use Rattle.protocol.specs.declared.nodes.NodeId.{NodeId}
use Rattle.protocol.specs.Effects.{Config}
use Rattle.protocol.specs.Nodes.{NodeState, NoFault, Outcome, down_node, restart_outcome}
use Rattle.node_core.specs.Nodes.{HasRows, NodeParts, NodeStands}

-- an earlier node over these bytes, whose table began with its rows in the cluster, stood for a node of the machine
pub record StoodFor (config : Config) (who : NodeId) (bytes : List ℕ) (before : NodeParts) (m : NodeState) : Type 0 where
  pub who_is : before.who ≡ who
  pub rows_are : HasRows config who before.rows
  pub bytes_are : before.held.bytes ≡ bytes
  pub stands : NodeStands config before m

-- a node of the machine on whose record a tear is armed, or none
abbrev pub torn_by : Option ℕ → NodeState → NodeState
torn_by tear m = record m { tear = tear }

-- what a restart of it comes to
abbrev pub restarted : Config → NodeId → Held → NodeState → Outcome
restarted config who held m = restart_outcome config who (torn_by held.armed m) NoFault

-- a node goes on as after a restart of the machine's, which answers ok
pub record GoesOn (config : Config) (who : NodeId) (held : Held) (m : NodeState) (node : NodeParts) : Type 0 where
  pub answer_is : (restarted config who held m).answer ≡ Done
  pub stands : NodeStands config node (restarted config who held m).node

-- the earlier node, down, over what is left of its record
abbrev pub down_over : Held → NodeParts → NodeParts
down_over left before = record { who = before.who; sizes = before.sizes; rows = before.rows; held = left; role = None }

-- no node is there, and not since the record is damaged: what is left of it keeps what it kept, and a later opening may find it
pub record StaysDown (config : Config) (held left : Held) (before : NodeParts) (m : NodeState) (refusal : Refusal) : Type 0 where
  pub undamaged : refusal ≢ Damaged
  pub stands : NodeStands config (down_over left before) (down_node (torn_by held.armed m))
