-- How a cluster begins: a node over each record, none of which has done anything.
use Rattle.std.specs.Prelude.{◌≡◌, ℕ, ◌+◌, ◌<◌, false, List, [], length, map, slice_index_or, Option, None}
use Rattle.std.specs.List.{All, AllZip}
use Rattle.xid.specs.declared.refusals.Refusal.{Refusal}
use Rattle.stable_record.specs.Held.{Held}
use Rattle.protocol.specs.declared.nodes.NodeId.{NodeId}
use Rattle.protocol.specs.Effects.{Config}
use Rattle.protocol.specs.Nodes.{NodeState, new_node}
use Rattle.floors.specs.Worlds.{FlooredWorld}
use Rattle.floors.specs.Runs.{IsFlooredReachable, floored_opening}
use Rattle.node_core.specs.Nodes.{NodeStands}
use Rattle.node_core.specs.Opening.{HasFaulted}
use Rattle.node_core.specs.Places.{node_in}
use Rattle.floored.specs.Nodes.{FlooredParts}
use Rattle.cluster.specs.Clusters.{ClusterParts, ClusterStands}

-- a node that has done nothing, over a record on which a tear may be armed
abbrev pub torn_node : Option ℕ → NodeState
torn_node tear = record new_node { tear = tear }

-- the world at first, where these tears are armed already
abbrev pub opening_with : Config → List (Option ℕ) → FlooredWorld
opening_with config tears = record (floored_opening config) { machine = record { nodes = map torn_node tears; net = [] } }

-- the tears that are armed on records
abbrev pub tears_of : List Held → List (Option ℕ)
tears_of records = map (λ held. held.armed) records

-- there is a record for each node, and each is empty
pub record AreNew (config : Config) (records : List Held) : Type 0 where
  pub count : length records ≡ config.acceptors + config.leaders + config.managers
  pub empty : All (λ held. held.bytes ≡ []) records

-- no tear is armed on any of them
abbrev pub NoneArmed : List Held → Type 0
NoneArmed records = All (λ held. held.armed ≡ None) records

-- none of them may fail of itself
abbrev pub NoneFails : List Held → Type 0
NoneFails records = All (λ held. held.nature.may_fail ≡ false) records

-- a node's record may fail of itself where the one may that it was opened over
abbrev pub IsOver : Held → FlooredParts → Type 0
IsOver held floored = floored.node.held.nature.may_fail ≡ held.nature.may_fail

-- a cluster was made over empty records: it stands for the opening world, in which the tears are armed that were; events lead to it
pub record IsMade (config : Config) (records : List Held) (cluster : ClusterParts) : Type 0 where
  pub new : AreNew config records
  pub over : AllZip IsOver records cluster.nodes
  pub reached : IsFlooredReachable config (opening_with config (tears_of records))
  pub stands : ClusterStands config cluster (opening_with config (tears_of records))
  pub unarmed : NoneArmed records → ClusterStands config cluster (floored_opening config)

-- one of these records failed, which it may, and counted it, before it was let go
pub record HasOneFaulted (records : List Held) : Type 0 where
  pub at : ℕ
  pub within : at < length records
  pub left : Held
  pub faulted : (d : Held) → HasFaulted (slice_index_or records at d) left

-- why a cluster wasn't made: the records aren't one empty one for each node, one of them failed, or memory ran out
abbrev pub IsUnmade : Config → List Held → Refusal → Type 0
IsUnmade config records Refusal.BadConfig = AreNew config records → ⊥
IsUnmade config records Refusal.RecordFault = HasOneFaulted records
IsUnmade config records Refusal.NoMemory = Unit {0}
IsUnmade config records other = ⊥

-- ---- node by node

-- a node was opened over an empty record: it has no floor
pub record IsBegun (config : Config) (who : NodeId) (held : Held) (floored : FlooredParts) : Type 0 where
  pub who_is : floored.node.who ≡ who
  pub empty : held.bytes ≡ []
  pub over : IsOver held floored
  pub floor_is : floored.floor ≡ None
  pub stands : NodeStands config floored.node (torn_node held.armed)

-- why a node wasn't opened over a record as an empty one: it isn't empty, it failed, which it may, and counted it, or memory ran out
abbrev pub IsUnbegun : Held → Refusal → Type 0
IsUnbegun held Refusal.BadConfig = held.bytes ≡ [] → ⊥
IsUnbegun held Refusal.RecordFault = (left : Held) × HasFaulted held left
IsUnbegun held Refusal.NoMemory = Unit {0}
IsUnbegun held other = ⊥

-- nodes were opened over empty records, in the order of their places
pub record AreBegun (config : Config) (records : List Held) (nodes : List FlooredParts) : Type 0 where
  pub empty : All (λ held. held.bytes ≡ []) records
  pub over : AllZip IsOver records nodes
  pub named : (at : ℕ) (d : FlooredParts) → at < length nodes → (slice_index_or nodes at d).node.who ≡ node_in config at
  pub without_floor : All (λ floored. floored.floor ≡ None) nodes
  pub stand : AllZip (λ floored. NodeStands config floored.node) nodes (map torn_node (tears_of records))
