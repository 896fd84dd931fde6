-- How a node's record is made shorter.
use Rattle.std.specs.Prelude.{◌≡◌, ◌⊎◌, ℕ, ◌≤◌, IsTrue, true, false, List, [], Option, None, Result, Ok, Err, OnOk}
use Rattle.xid.specs.declared.refusals.Refusal.{Refusal}
use Rattle.stable_record.specs.declared.entry.EntryKind.{EntryKind as Entry}
use Rattle.stable_record.specs.declared.fact.FactKind.{FactKind as Fact}
use Rattle.stable_record.specs.Grammar.{IsStored}
use Rattle.stable_record.specs.Held.{Held, IsCounted, HasFailed, with_bytes}
use Rattle.protocol.specs.declared.nodes.NodeId.{NodeId}
use Rattle.protocol.specs.declared.rows.Row.{Row}
use Rattle.protocol.specs.Effects.{Config}
use Rattle.protocol.specs.Nodes.{NodeState, Memory, Fault, NoFault, NoMemoryBefore, NoMemoryAt, RecordFails, all_play, compact_outcome}
use Rattle.resource_manager.specs.Compacted.{about_length}
use Rattle.node_core.specs.declared.role.Role.{Role}
use Rattle.node_core.specs.Roles.{RoleStands}
use Rattle.node_core.specs.Nodes.{Kept, MeansFrom, begun, SameState, NodeParts, Stands, IsSameNode}
use Rattle.node_core.specs.Opening.{frames_of, restart_answer}
use Rattle.node_core.specs.Shorter.{shorter_record}

-- what bytes say of transactions is no longer than what others did, in frames as they are written today, be it facts, or outcomes of the
-- past in a record that was made shorter before: a snapshot of a resource manager's table, and its rows, aren't counted
abbrev pub IsNoLonger : (old new : List ℕ) → Type 0
IsNoLonger old new =
    (before after : List Entry) (tail end : List ℕ) → IsStored old before tail → IsStored new after end
    → about_length after ≤ about_length before

-- bytes are frames of entries of today, which are the shorter record of facts, play, and say the same
pub record IsShorter (config : Config) (who : NodeId) (facts : List Fact) (bytes : List ℕ) : Type 0 where
  pub all : List Entry
  pub bytes_are : bytes ≡ frames_of all
  pub stored : IsStored bytes all []
  pub shortened : all ≡ shorter_record config who facts
  pub kept : Kept
  pub means : MeansFrom who all kept.rows kept.facts
  pub fits : all_play config who [] kept.facts ≡ true
  pub same : (own : List Row) → SameState (begun config who own kept.rows) config who kept.facts facts

-- bytes say the same as whatever facts a role stands for, which play
abbrev pub Shortens : Role → (bytes : List ℕ) → Type 0
Shortens role bytes =
    (config : Config) (who : NodeId) (facts : List Fact) (memory : Memory) → RoleStands config who role facts memory
    → all_play config who [] facts ≡ true → IsShorter config who facts bytes

-- what comes of putting frames in the place of a record that say the same as facts
abbrev pub IsRecompacted : Config → NodeId → List Fact → (old new : Held) → Result (Unit {0}) Refusal → Type 0
IsRecompacted config who facts old new (Ok done) =
    (bytes : List ℕ) × IsShorter config who facts bytes × (new ≡ with_bytes bytes old)
IsRecompacted config who facts old new (Err Refusal.RecordFault) =
    (bytes : List ℕ) × IsShorter config who facts bytes × HasFailed bytes old new
IsRecompacted config who facts old new (Err Refusal.NoMemory) = new ≡ old
IsRecompacted config who facts old new (Err other) = ⊥

-- frames that say the same as whatever facts a role stands for were put in the place of a record
abbrev pub Recompacts : Role → (old new : Held) → Result (Unit {0}) Refusal → Type 0
Recompacts role old new result =
    (config : Config) (who : NodeId) (facts : List Fact) (memory : Memory) → RoleStands config who role facts memory
    → all_play config who [] facts ≡ true → IsRecompacted config who facts old new result

-- what a place for a role holds then: where it was refused, the node is down
abbrev pub role_kept : Option Role → Result (Unit {0}) Refusal → Option Role
role_kept role (Ok done) = role
role_kept role (Err refusal) = None

-- no call of a record failed
pub record IsUnfaulted (old new : Held) : Type 0 where
  pub armed : new.armed ≡ old.armed
  pub faults : new.faults ≡ old.faults
  pub nature : new.nature ≡ old.nature

-- a record failed, which it may, and counted it
pub record HasCounted (old new : Held) : Type 0 where
  pub may : IsTrue old.nature.may_fail
  pub counted : IsCounted old.faults new.faults
  pub armed : new.armed ≡ old.armed
  pub nature : new.nature ≡ old.nature

-- a fault of a compaction is true to what befell the record
abbrev pub BefallsCompact : (old new : Held) → Fault → Type 0
BefallsCompact old new NoFault = IsUnfaulted old new
BefallsCompact old new NoMemoryBefore = ⊥
BefallsCompact old new NoMemoryAt = new ≡ old
BefallsCompact old new (RecordFails whole) = HasCounted old new

-- a node that was up was compacted as the machine's is, under a fault that is true; its record became the shorter one of its facts, which
-- is no longer, or stayed
pub record IsCompactedUp (config : Config) (who : NodeId) (own : List Row) (m : NodeState) (old new : Held) (role : Option Role)
    (result : Result (Unit {0}) Refusal) : Type 0 where
  pub up : m.up ≡ true
  pub fault : Fault
  pub befalls : BefallsCompact old new fault
  pub answer_is : restart_answer result ≡ (compact_outcome m fault).answer
  pub content : IsRecompacted config who m.facts old new result
  pub no_longer : OnOk result (IsNoLonger old.bytes new.bytes)
  pub stands : Stands config who own new role (compact_outcome m fault).node

-- a node that was down isn't compacted, and stays as it was
pub record IsCompactedDown (config : Config) (who : NodeId) (own : List Row) (m : NodeState) (old new : Held) (role : Option Role)
    (result : Result (Unit {0}) Refusal) : Type 0 where
  pub down : m.up ≡ false
  pub result_is : result ≡ Err Refusal.Down
  pub same : new ≡ old
  pub stands : Stands config who own new role m

-- a node was to be compacted
abbrev pub Compacts : (config : Config) → NodeId → (own : List Row) → NodeState → (old new : Held) → Option Role
    → Result (Unit {0}) Refusal → Type 0
Compacts config who own m old new role result =
    IsCompactedUp config who own m old new role result ⊎ IsCompactedDown config who own m old new role result

-- the same of a whole node
pub record CompactsAs (config : Config) (m : NodeState) (old new : NodeParts) (result : Result (Unit {0}) Refusal) : Type 0 where
  pub same : IsSameNode old new
  pub compacts : Compacts config old.who old.rows m old.held new.held new.role result
