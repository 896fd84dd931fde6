-- What a cluster answers on a resource manager, and that it stays what it is.
use Rattle.std.specs.Prelude.{◌≡◌, ◌⊎◌, ℕ, List, slice_index_or, Option, Some, None, Result, Err}
use Rattle.xid.specs.Transactions.{TxParts}
use Rattle.xid.specs.declared.refusals.Refusal.{Refusal}
use Rattle.protocol.specs.declared.nodes.NodeId.{NodeId}
use Rattle.protocol.specs.declared.nodes.NodeId.TheVariants.{R}
use Rattle.protocol.specs.declared.rows.Row.{Row}
use Rattle.protocol.specs.declared.states.View.{View}
use Rattle.protocol.specs.Effects.{Config}
use Rattle.protocol.specs.Nodes.{NodeState}
use Rattle.protocol.specs.Worlds.{place, node_at}
use Rattle.node_core.specs.Viewing.{SaysTable, IsUnread}
use Rattle.floors.specs.Worlds.{FlooredWorld}
use Rattle.floored.specs.Nodes.{FlooredParts, SaysFlooredView}
use Rattle.cluster.specs.Clusters.{ClusterParts, ClusterStands, IsSameCluster, StayBut}

-- the record of a node that is down couldn't be read: it failed, or memory ran out. The node stays what it is, all others stay as they
-- were, and so do the datagrams and the notices
pub record IsUnreadAt {X : Type 0} (config : Config) (who : NodeId) (old new : ClusterParts) (result : Result X Refusal) : Type 0 where
  pub others : StayBut (place config who) old.nodes new.nodes
  pub network_is : new.network ≡ old.network
  pub notices_are : new.notices ≡ old.notices
  pub floor_is : (at : ℕ) (d : FlooredParts) → place config who ≡ Some at
      → (slice_index_or new.nodes at d).floor ≡ (slice_index_or old.nodes at d).floor
  pub role_is : (at : ℕ) (d : FlooredParts) → place config who ≡ Some at
      → (slice_index_or new.nodes at d).node.role ≡ (slice_index_or old.nodes at d).node.role
  pub unread : (at : ℕ) (d : FlooredParts) → place config who ≡ Some at
      → IsUnread (slice_index_or old.nodes at d).node.held (slice_index_or new.nodes at d).node.held
      (slice_index_or old.nodes at d).node.role result

-- an answer is what a node says, and nothing has changed, or its record couldn't be read; where there is no node, there is none
abbrev pub IsSaid : {X : Type 0} → Config → NodeId → (old new : ClusterParts) → (NodeState → Type 0) → Option NodeState
    → Result X Refusal → Type 0
IsSaid config who old new Says None result = (new ≡ old) × (result ≡ Err Refusal.NoSuch)
IsSaid config who old new Says (Some m) result = ((new ≡ old) × Says m) ⊎ IsUnreadAt config who old new result

-- a cluster was asked where a resource manager stands in a transaction
pub record ViewsIn (config : Config) (world : FlooredWorld) (old new : ClusterParts) (rm : ℕ) (tx : TxParts) (result : Result View Refusal)
    : Type 0 where
  pub same : IsSameCluster old new
  pub stands : ClusterStands config new world
  pub says : IsSaid config (R rm) old new (λ m. SaysFlooredView config (R rm) (world.floor (R rm)) m.facts tx result)
      (node_at config world.machine (R rm)) result

-- a cluster was asked for the table of a resource manager
pub record TablesIn (config : Config) (world : FlooredWorld) (old new : ClusterParts) (rm : ℕ) (result : Result (List Row) Refusal)
    : Type 0 where
  pub same : IsSameCluster old new
  pub stands : ClusterStands config new world
  pub says : IsSaid config (R rm) old new (λ m. SaysTable config (R rm) m.facts result) (node_at config world.machine (R rm)) result
