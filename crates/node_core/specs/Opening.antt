-- How a node reads its record.
use Rattle.std.specs.Prelude.{◌≡◌, ◌≢◌, ◌⊎◌, ℕ, ◌≤◌, Bool, true, false, List, [], ◌∷◌, ◌++◌, length, drop, map, Option, Some, None, is_some}
use Rattle.std.specs.Prelude.{Result, Ok, Err, IsTrue}
use Rattle.std.specs.Borrow.{Bor}
use Rattle.std.specs.List.{list_all, flat_map}
use Rattle.std.specs.Cmp.Lexicographic.{slice_cmp}
use Rattle.std.specs.Ordering.{nat_cmp, is_lt}
use Rattle.xid.specs.declared.refusals.Refusal.{Refusal}
use Rattle.wire.specs.Versions.{version_2}
use Rattle.stable_record.specs.declared.entry.EntryKind.{EntryKind as Entry}
use Rattle.stable_record.specs.declared.entry.EntryKind.TheVariants as entries
use Rattle.stable_record.specs.declared.fact.FactKind.{FactKind as Fact}
use Rattle.stable_record.specs.Grammar.{IsStored, IsDamaged, IsFramed, IsTail, HasNoFrame, frame}
use Rattle.stable_record.specs.Held.{Held, IsCounted, HasFailed, with_bytes}
use Rattle.protocol.specs.declared.nodes.NodeId.{NodeId}
use Rattle.protocol.specs.declared.nodes.NodeId.TheVariants.{R}
use Rattle.protocol.specs.declared.rows.Row.{Row}
use Rattle.protocol.specs.Effects.{Config}
use Rattle.protocol.specs.declared.answers.Answer.{Answer}
use Rattle.protocol.specs.declared.answers.Answer.TheVariants.{Done, Refused}
use Rattle.protocol.specs.Nodes.{NodeState, Fault, empty_memory, all_play, restart_outcome}
use Rattle.protocol.specs.Nodes.{NoFault, NoMemoryBefore, NoMemoryAt, RecordFails}
use Rattle.resource_manager.specs.Compacted.{IsCompacted, beginning_with, row_entry, are_ascending, is_about_tx, facts_of}
use Rattle.node_core.specs.Configs.{is_among}
use Rattle.branch_table.specs.TableStates.{is_row, are_rows}
use Rattle.node_core.specs.Nodes.{Kept, Holds, begun, NodeParts, NodeStands, Stands, IsSameNode}
use Rattle.node_core.specs.declared.role.Role.{Role}
use Rattle.node_core.specs.Roles.{RoleStands}

-- ---- entries behind the rows

-- whether an entry is a fact
abbrev pub is_fact : Entry → Bool
is_fact (entries.Fact fact) = true
is_fact other = false

-- whether an entry may stand behind the rows, or with none in front: in a record that was made shorter also past outcomes
abbrev pub may_stand : (compacted : Bool) → Entry → Bool
may_stand true entry = is_about_tx entry
may_stand false entry = is_fact entry

-- facts were played after others, or don't play
abbrev pub AreReplayed : Config → NodeId → (before played : List Fact) → Role → Result (Unit {0}) Refusal → Type 0
AreReplayed config who before played new (Ok done) =
    (all_play config who before played ≡ true) × RoleStands config who new (before ++ played) empty_memory
AreReplayed config who before played new (Err Refusal.Damaged) = all_play config who before played ≡ false
AreReplayed config who before played new (Err Refusal.NoMemory) = Unit {0}
AreReplayed config who before played new (Err other) = ⊥

-- it plays facts, whatever facts it stood for with nothing in memory
abbrev pub ReplaysAll : (old new : Role) → (played : List Fact) → Result (Unit {0}) Refusal → Type 0
ReplaysAll old new played result =
    (config : Config) (who : NodeId) (facts : List Fact) → RoleStands config who old facts empty_memory
    → AreReplayed config who facts played new result

-- an entry was played after facts
pub record IsEntryPlayed (config : Config) (who : NodeId) (compacted : Bool) (facts : List Fact) (new : Role) (entry : Entry) : Type 0 where
  pub may : may_stand compacted entry ≡ true
  pub fits : all_play config who facts (facts_of entry) ≡ true
  pub stands : RoleStands config who new (facts ++ facts_of entry) empty_memory

-- an entry was played, or may not stand there, or doesn't play
abbrev pub IsPlayedAs : Config → NodeId → Bool → List Fact → Role → Entry → Result (Unit {0}) Refusal → Type 0
IsPlayedAs config who compacted facts new entry (Ok done) = IsEntryPlayed config who compacted facts new entry
IsPlayedAs config who compacted facts new entry (Err Refusal.Damaged) =
    may_stand compacted entry ≡ true → all_play config who facts (facts_of entry) ≡ false
IsPlayedAs config who compacted facts new entry (Err Refusal.NoMemory) = Unit {0}
IsPlayedAs config who compacted facts new entry (Err other) = ⊥

-- it plays an entry of a record, whatever facts it stood for with nothing in memory
abbrev pub PlaysEntry : (compacted : Bool) → (old new : Role) → Entry → Result (Unit {0}) Refusal → Type 0
PlaysEntry compacted old new entry result =
    (config : Config) (who : NodeId) (facts : List Fact) → RoleStands config who old facts empty_memory
    → IsPlayedAs config who compacted facts new entry result

-- an entry stands in front of bytes, and was played, or not
pub record IsFirstPlayed (compacted : Bool) (bytes after : List ℕ) (old new : Role) (result : Result (Unit {0}) Refusal) : Type 0 where
  pub entry : Entry
  pub framed : IsFramed entry bytes after
  pub plays : PlaysEntry compacted old new entry result

-- the entry in front of bytes was played, and these follow it; or the bytes are a tail; or why neither
abbrev pub PlaysFirst : (compacted : Bool) → List ℕ → (old new : Role) → Result (Option (Bor (List ℕ))) Refusal → Type 0
PlaysFirst compacted bytes old new (Ok (Some after)) = IsFirstPlayed compacted bytes after.now old new (Ok tt)
PlaysFirst compacted bytes old new (Ok None) = IsTail bytes × (new ≡ old)
PlaysFirst compacted bytes old new (Err e) =
    ((after : List ℕ) × IsFirstPlayed compacted bytes after old new (Err e))
    ⊎ (((e ≡ Refusal.Damaged) × HasNoFrame bytes) ⊎ (e ≡ Refusal.NoMemory))

-- bytes hold entries that may stand there, and that play, and a tail
pub record Goes (config : Config) (who : NodeId) (compacted : Bool) (bytes : List ℕ) (all : List Entry) (tail : List ℕ) : Type 0 where
  pub stored : IsStored bytes all tail
  pub may : list_all (may_stand compacted) all ≡ true
  pub fits : all_play config who [] (flat_map facts_of all) ≡ true

-- the entries of bytes were played: their frames fill so many
pub record HasPlayed (config : Config) (who : NodeId) (compacted : Bool) (bytes : List ℕ) (role : Role) (len : ℕ) : Type 0 where
  pub all : List Entry
  pub within : len ≤ length bytes
  pub goes : Goes config who compacted bytes all (drop len bytes)
  pub stands : RoleStands config who role (flat_map facts_of all) empty_memory

-- bytes hold no entries that may stand there and play
abbrev pub IsUnplayable : Config → NodeId → Bool → List ℕ → Type 0
IsUnplayable config who compacted bytes = (all : List Entry) (tail : List ℕ) → Goes config who compacted bytes all tail → ⊥

-- what comes of playing the entries of bytes
abbrev pub IsPlayedWhole : Config → NodeId → Bool → List ℕ → Role → Result ℕ Refusal → Type 0
IsPlayedWhole config who compacted bytes role (Ok len) = HasPlayed config who compacted bytes role len
IsPlayedWhole config who compacted bytes role (Err Refusal.Damaged) = IsUnplayable config who compacted bytes
IsPlayedWhole config who compacted bytes role (Err Refusal.NoMemory) = Unit {0}
IsPlayedWhole config who compacted bytes role (Err other) = ⊥

-- the same with the role that has played them
abbrev pub IsPlayedFrom : Config → NodeId → Bool → List ℕ → Result (Role × ℕ) Refusal → Type 0
IsPlayedFrom config who compacted bytes (Ok read) = HasPlayed config who compacted bytes read.0 read.1
IsPlayedFrom config who compacted bytes (Err Refusal.Damaged) = IsUnplayable config who compacted bytes
IsPlayedFrom config who compacted bytes (Err Refusal.NoMemory) = Unit {0}
IsPlayedFrom config who compacted bytes (Err other) = ⊥

-- entries were read before the rest of bytes: whatever the rest holds comes after them
pub record IsReadUpTo (bytes rest : List ℕ) (read : List Entry) : Type 0 where
  pub place : (before : List ℕ) × (bytes ≡ before ++ rest)
  pub goes : (more : List Entry) (tail : List ℕ) → IsStored rest more tail → IsStored bytes (read ++ more) tail
  pub came : (all : List Entry) (tail : List ℕ) → IsStored bytes all tail → (more : List Entry) × (all ≡ read ++ more)
      × IsStored rest more tail

-- what was played so far: the entries before the rest
pub record HasPlayedTo (config : Config) (who : NodeId) (compacted : Bool) (bytes rest : List ℕ) (role : Role) : Type 0 where
  pub read : List Entry
  pub up_to : IsReadUpTo bytes rest read
  pub may : list_all (may_stand compacted) read ≡ true
  pub fits : all_play config who [] (flat_map facts_of read) ≡ true
  pub stands : RoleStands config who role (flat_map facts_of read) empty_memory

-- ---- a snapshot and its rows

-- the row of an entry
abbrev pub row_of : Entry → Option Row
row_of (entries.Row key value) = Some (record { key = key; value = value })
row_of other = None

-- a row, if there is one, is within the limits
abbrev pub IsShort : Option Row → Type 0
IsShort None = Unit {0}
IsShort (Some row) = is_row row ≡ true

-- whether an entry is a snapshot
abbrev pub is_snapshot : Entry → Bool
is_snapshot entries.Snapshot = true
is_snapshot other = false

-- whether a row may follow others: its key is greater than that of the last
abbrev pub may_follow : List Row → Row → Bool
may_follow [] row = true
may_follow (last ∷ []) row = is_lt (slice_cmp nat_cmp last.key row.key)
may_follow (first ∷ second ∷ rows) row = may_follow (second ∷ rows) row

-- rows were read before the rest of bytes, their keys ascending
pub record AreRowsTo (bytes rest : List ℕ) (rows : List Row) : Type 0 where
  pub up_to : IsReadUpTo bytes rest (map row_entry rows)
  pub ascending : are_ascending rows ≡ true
  pub short : are_rows rows ≡ true

-- all rows were read that stand in front of bytes with their keys ascending
pub record AreAllRows (bytes rest : List ℕ) (rows : List Row) : Type 0 where
  pub read : AreRowsTo bytes rest rows
  pub last : (row : Row) (after : List ℕ) → IsFramed (row_entry row) rest after → may_follow rows row ≡ false

-- bytes begin with a snapshot and rows, which are all that any such reading of them has
pub record IsSnapshot (bytes rest : List ℕ) (rows : List Row) : Type 0 where
  pub few : length rest ≤ length bytes
  pub up_to : IsReadUpTo bytes rest (entries.Snapshot ∷ map row_entry rows)
  pub ascending : are_ascending rows ≡ true
  pub short : are_rows rows ≡ true
  pub only : (all : List Entry) (tail : List ℕ) (others : List Row) (facts : List Fact) → IsStored bytes all tail
      → (c : IsCompacted all others facts) → (others ≡ rows) × IsStored rest c.later tail

-- bytes are no record that was made shorter
abbrev pub IsUncompacted : List ℕ → Type 0
IsUncompacted bytes = (all : List Entry) (tail : List ℕ) (rows : List Row) (facts : List Fact) → IsStored bytes all tail
    → IsCompacted all rows facts → ⊥

-- why nothing was taken of bytes: they hold no entries, or memory ran out
abbrev pub TakesNothing : List ℕ → Refusal → Type 0
TakesNothing bytes e = ((e ≡ Refusal.Damaged) × IsDamaged bytes) ⊎ (e ≡ Refusal.NoMemory)

-- whether a node's record may begin with a snapshot
abbrev pub IsManager : NodeId → Type 0
IsManager (R rm) = Unit {0}
IsManager who = ⊥

-- a node's record doesn't begin with a snapshot, or may not
abbrev pub IsPlain : NodeId → List ℕ → Type 0
IsPlain (R rm) bytes = IsUncompacted bytes
IsPlain who bytes = Unit {0}

-- ---- the frames of version 1

-- the frames of entries, as they are written today
abbrev pub frames_of : List Entry → List ℕ
frames_of all = flat_map (frame version_2) all

-- bytes that hold entries and no tail are the frames of these as they are written today, or not
abbrev pub IsCurrent : List ℕ → Bool → Type 0
IsCurrent bytes true = (all : List Entry) → IsStored bytes all [] → bytes ≡ frames_of all
IsCurrent bytes false = (all : List Entry) → IsStored bytes all [] → bytes ≢ frames_of all

-- what a replacement leaves, as a refusal tells it
abbrev pub IsReplaced : (next : List ℕ) → (old new : Held) → Result (Unit {0}) Refusal → Type 0
IsReplaced next old new (Ok done) = new ≡ with_bytes next old
IsReplaced next old new (Err Refusal.RecordFault) = HasFailed next old new
IsReplaced next old new (Err Refusal.NoMemory) = new ≡ old
IsReplaced next old new (Err other) = ⊥

-- a record with no tail got the frames of its entries as they are written today
abbrev pub Rewrites : (old new : Held) → Result (Unit {0}) Refusal → Type 0
Rewrites old new result = (all : List Entry) → IsStored old.bytes all [] → IsReplaced (frames_of all) old new result

-- ---- the whole record

-- bytes hold nothing that plays
abbrev pub IsBad : Config → NodeId → List ℕ → Type 0
IsBad config who bytes = (kept : Kept) (tail : List ℕ) → Holds config who bytes kept tail → ⊥

-- a record was read, and its entries were played: their frames fill so many bytes
pub record IsRecordRead (config : Config) (who : NodeId) (own : List Row) (bytes : List ℕ) (role : Role) (len : ℕ) : Type 0 where
  pub kept : Kept
  pub within : len ≤ length bytes
  pub holds : Holds config who bytes kept (drop len bytes)
  pub stands : RoleStands (begun config who own kept.rows) who role kept.facts empty_memory

-- what comes of reading bytes
abbrev pub Reads : Config → NodeId → (own : List Row) → List ℕ → Result (Role × ℕ) Refusal → Type 0
Reads config who own bytes (Ok read) = IsRecordRead config who own bytes read.0 read.1
Reads config who own bytes (Err Refusal.Damaged) = IsBad config who bytes
Reads config who own bytes (Err Refusal.NoMemory) = Unit {0}
Reads config who own bytes (Err other) = ⊥

-- bytes are others, which hold entries that play, without the tail behind these
pub record IsUntailed (config : Config) (who : NodeId) (old new : List ℕ) : Type 0 where
  pub kept : Kept
  pub tail : List ℕ
  pub held : Holds config who old kept tail
  pub bytes_are : old ≡ new ++ tail

-- bytes are the frames, as they are written today, of the entries that others hold, which play
pub record IsRenewed (config : Config) (who : NodeId) (old new : List ℕ) : Type 0 where
  pub kept : Kept
  pub tail : List ℕ
  pub held : Holds config who old kept tail
  pub bytes_are : new ≡ frames_of held.all

-- bytes are as they were, or have lost their tail
abbrev pub IsTrimmed : Config → NodeId → (old new : List ℕ) → Type 0
IsTrimmed config who old new = (new ≡ old) ⊎ IsUntailed config who old new

-- what is left of a record's content where it failed while it was read: what it was, that without its tail, or the frames of today
abbrev pub IsLeftOver : Config → NodeId → (old new : List ℕ) → Type 0
IsLeftOver config who old new = IsTrimmed config who old new ⊎ IsRenewed config who old new

-- no call of a record failed: it holds what it held, and its tail or none
pub record HasStayed (old new : Held) : Type 0 where
  pub armed : new.armed ≡ old.armed
  pub faults : new.faults ≡ old.faults
  pub nature : new.nature ≡ old.nature
  pub holds : (config : Config) (who : NodeId) (kept : Kept) (tail : List ℕ) → Holds config who old.bytes kept tail
      → (end : List ℕ) × Holds config who new.bytes kept end

-- a record was read and played: it has no tail any more, and its frames are of version 2
pub record IsLoaded (config : Config) (who : NodeId) (own : List Row) (old new : Held) (role : Role) : Type 0 where
  pub kept : Kept
  pub tail : List ℕ
  pub held : Holds config who old.bytes kept tail
  pub written : new.bytes ≡ frames_of held.all
  pub stayed : HasStayed old new
  pub stands : RoleStands (begun config who own kept.rows) who role kept.facts empty_memory

-- a record failed, which it may, and counted it: it holds what it held, and its tail or none
pub record HasFaulted (old new : Held) : Type 0 where
  pub may : IsTrue old.nature.may_fail
  pub counted : IsCounted old.faults new.faults
  pub armed : new.armed ≡ old.armed
  pub nature : new.nature ≡ old.nature
  pub holds : (config : Config) (who : NodeId) (kept : Kept) (tail : List ℕ) → Holds config who old.bytes kept tail
      → (end : List ℕ) × Holds config who new.bytes kept end

-- what reading a record leaves
abbrev pub Loads : Config → NodeId → (own : List Row) → (old new : Held) → Result Role Refusal → Type 0
Loads config who own old new (Ok role) = IsLoaded config who own old new role
Loads config who own old new (Err Refusal.Damaged) = (new ≡ old) × IsBad config who old.bytes
Loads config who own old new (Err Refusal.RecordFault) = HasFaulted old new × IsLeftOver config who old.bytes new.bytes
Loads config who own old new (Err Refusal.NoMemory) = HasStayed old new × IsTrimmed config who old.bytes new.bytes
Loads config who own old new (Err other) = ⊥

-- ---- opened and restarted

-- the cluster that a record is of: where it begins with rows of a table, these are its first contents
abbrev pub cluster_of : Config → NodeId → Option (List Row) → Config
cluster_of config who None = config
cluster_of config (R rm) (Some rows) = beginning_with config rm rows
cluster_of config who (Some rows) = config

-- a node was opened: it holds what stood in its record, and stands for the node of the machine that stored it
pub record IsOpened (config : Config) (who : NodeId) (old : Held) (node : NodeParts) : Type 0 where
  pub kept : Kept
  pub tail : List ℕ
  pub held : Holds config who old.bytes kept tail
  pub written : node.held.bytes ≡ frames_of held.all
  pub who_is : node.who ≡ who
  pub up : is_some node.role ≡ true
  pub nature : node.held.nature ≡ old.nature
  pub stands : NodeStands (cluster_of config who kept.rows) node
      (record { facts = kept.facts; up = true; tear = old.armed; memory = empty_memory })

-- why a node wasn't opened, and what is left of its record; it is one of the cluster but where there is no such node
abbrev pub IsUnopened : Config → NodeId → (old new : Held) → Refusal → Type 0
IsUnopened config who old new Refusal.NoSuch = (new ≡ old) × (is_among config who ≡ false)
IsUnopened config who old new Refusal.Damaged = (is_among config who ≡ true) × (new ≡ old) × IsBad config who old.bytes
IsUnopened config who old new Refusal.RecordFault =
    (is_among config who ≡ true) × HasFaulted old new × IsLeftOver config who old.bytes new.bytes
IsUnopened config who old new Refusal.NoMemory = (is_among config who ≡ true) × HasStayed old new × IsTrimmed config who old.bytes new.bytes
IsUnopened config who old new other = ⊥

-- a fault of a restart is true to what befell the record
abbrev pub BefallsRestart : (old new : Held) → Fault → Type 0
BefallsRestart old new NoFault = HasStayed old new
BefallsRestart old new NoMemoryBefore = ⊥
BefallsRestart old new NoMemoryAt = HasStayed old new
BefallsRestart old new (RecordFails whole) = HasFaulted old new

-- how a restart is answered
abbrev pub restart_answer : Result (Unit {0}) Refusal → Answer
restart_answer (Ok done) = Done
restart_answer (Err refusal) = Refused refusal

-- where a restart is answered with no refusal, a record is the frames of what it held, of version 2; else what an opening leaves then
abbrev pub IsWritten : Config → NodeId → (old new : Held) → Result (Unit {0}) Refusal → Type 0
IsWritten config who old new (Ok done) =
    (kept : Kept) (tail : List ℕ) → (held : Holds config who old.bytes kept tail) → new.bytes ≡ frames_of held.all
IsWritten config who old new (Err Refusal.RecordFault) = IsLeftOver config who old.bytes new.bytes
IsWritten config who old new (Err Refusal.NoMemory) = IsTrimmed config who old.bytes new.bytes
IsWritten config who old new (Err other) = ⊥

-- a node restarted as the machine's does, under a fault that is true; its record holds what it held
pub record Restarts (config : Config) (who : NodeId) (own : List Row) (m : NodeState) (old new : Held) (role : Option Role)
    (result : Result (Unit {0}) Refusal) : Type 0 where
  pub fault : Fault
  pub befalls : BefallsRestart old new fault
  pub answer_is : restart_answer result ≡ (restart_outcome config who m fault).answer
  pub holds : (kept : Kept) (tail : List ℕ) → Holds config who old.bytes kept tail → (end : List ℕ) × Holds config who new.bytes kept end
  pub written : IsWritten config who old new result
  pub stands : Stands config who own new role (restart_outcome config who m fault).node

-- the same of a whole node
pub record RestartsAs (config : Config) (m : NodeState) (old new : NodeParts) (result : Result (Unit {0}) Refusal) : Type 0 where
  pub same : IsSameNode old new
  pub restarts : Restarts config old.who old.rows m old.held new.held new.role result
