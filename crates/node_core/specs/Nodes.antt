-- A node: which node of the machine it stands for, and what an input makes of both.
use Rattle.xid.specs.Limits.{most_acceptors}
use Rattle.std.specs.Prelude.{◌≡◌, ◌<◌, ◌≤◌, ℕ, Bool, true, false, ◌&&◌, if◌then◌else◌, List, [], ◌++◌, map, Option, Some, None, Result, Ok}
use Rattle.std.specs.Prelude.{Err, unwrap_or}
use Rattle.std.specs.Option.{option_map_or}
use Rattle.wire.specs.Decoding.{message_at}
use Rattle.stable_record.specs.declared.fact.FactKind.{FactKind as Fact}
use Rattle.stable_record.specs.declared.entry.EntryKind.{EntryKind as Entry}
use Rattle.stable_record.specs.declared.entry.EntryKind.TheVariants as entries
use Rattle.stable_record.specs.Grammar.{IsStored}
use Rattle.stable_record.specs.Held.{Held, IsAdded, IsStopped}
use Rattle.protocol.specs.declared.nodes.NodeId.{NodeId}
use Rattle.protocol.specs.declared.nodes.NodeId.TheVariants.{A, L, R}
use Rattle.protocol.specs.declared.rows.Row.{Row}
use Rattle.protocol.specs.Effects.{Config}
use Rattle.protocol.specs.Nodes.{NodeState, Memory, Input, Asked, Received, ReceivedNoise, Fault, plays, all_play, first_rows}
use Rattle.protocol.specs.Nodes.{accepts_input, effect_of, node_step, Outcome, NoFault, NoMemoryBefore, NoMemoryAt, RecordFails}
use Rattle.protocol.specs.Worlds.{change_of}
use Rattle.node_core.specs.declared.config.Sizes.{Sizes}
use Rattle.node_core.specs.declared.output.Input.{Input as Handed}
use Rattle.node_core.specs.declared.output.Input.TheVariants as inputs
use Rattle.node_core.specs.declared.output.Output.{Output}
use Rattle.node_core.specs.declared.role.Role.{Role}
use Rattle.resource_manager.specs.Compacted.{IsCompacted, beginning_with}
use Rattle.branch_table.specs.TableStates.{are_rows}
use Rattle.node_core.specs.Roles.{RoleStands}
use Rattle.node_core.specs.Shorter.{shorter_record}
use Rattle.node_core.specs.Storing.{fact_frame, IsTorn}
use Rattle.node_core.specs.Sparing.{is_free}

-- ---- what a record keeps

-- what a record keeps: the rows that the table begins with, where it was made shorter, and facts
pub record Kept : Type 0 where
  pub rows : Option (List Row)
  pub facts : List Fact

-- what entries mean: they are facts, or, at a resource manager, those of a record that was made shorter
abbrev pub MeansFrom : NodeId → List Entry → Option (List Row) → List Fact → Type 0
MeansFrom who all None facts = all ≡ map entries.Fact facts
MeansFrom (R rm) all (Some rows) facts = IsCompacted all rows facts
MeansFrom who all (Some rows) facts = ⊥

-- bytes hold what a record keeps, the facts of which play, and a tail
pub record Holds (config : Config) (who : NodeId) (bytes : List ℕ) (kept : Kept) (tail : List ℕ) : Type 0 where
  pub all : List Entry
  pub stored : IsStored bytes all tail
  pub means : MeansFrom who all kept.rows kept.facts
  pub fits : all_play config who [] kept.facts ≡ true

-- the cluster in which a resource manager's table begins with the rows that its record begins with, or else with its own
abbrev pub begun : Config → NodeId → (own : List Row) → Option (List Row) → Config
begun config (R rm) own rows = beginning_with config rm (unwrap_or rows own)
begun config who own rows = config

-- facts in a record say the same as others, in a cluster that may have other first contents: whatever is played after them, a role that
-- stands for the one stands for the other, the same facts play, and the shorter record is the same
pub record SameState (from config : Config) (who : NodeId) (kept facts : List Fact) : Type 0 where
  pub stands : (more : List Fact) (role : Role) (memory : Memory) → RoleStands from who role (kept ++ more) memory
      → RoleStands config who role (facts ++ more) memory
  pub fits : (more : List Fact) (fact : Fact) → plays config who (kept ++ more) fact ≡ plays config who (facts ++ more) fact
  pub shorter : (more : List Fact) → all_play from who [] (kept ++ more) ≡ true
      → shorter_record from who (kept ++ more) ≡ shorter_record config who (facts ++ more)

-- bytes keep facts: what they hold says the same, beside a tail
pub record Keeps (config : Config) (who : NodeId) (own : List Row) (bytes : List ℕ) (facts : List Fact) (tail : List ℕ) : Type 0 where
  pub kept : Kept
  pub holds : Holds config who bytes kept tail
  pub same : SameState (begun config who own kept.rows) config who kept.facts facts

-- ---- which node of the machine a node stands for

-- a node that is up has no tail, and its role stands for the facts and the memory
abbrev pub RoleIs : Config → NodeId → NodeState → (tail : List ℕ) → Option Role → Type 0
RoleIs config who m tail None = m.up ≡ false
RoleIs config who m tail (Some role) = (m.up ≡ true) × (tail ≡ []) × RoleStands config who role m.facts m.memory

-- a record and a role stand for a node of the machine, whose table begins with rows of its own
pub record Stands (config : Config) (who : NodeId) (own : List Row) (held : Held) (role : Option Role) (m : NodeState) : Type 0 where
  pub tail : List ℕ
  pub keeps : Keeps config who own held.bytes m.facts tail
  pub played : all_play config who [] m.facts ≡ true
  pub role_is : RoleIs config who m tail role
  pub tear_is : m.tear ≡ held.armed

-- the sizes are those of a cluster
pub record AreSizes (config : Config) (sizes : Sizes) : Type 0 where
  pub acceptors_are : sizes.acceptors ≡ config.acceptors
  pub leaders_are : sizes.leaders ≡ config.leaders
  pub managers_are : sizes.managers ≡ config.managers
  pub bundled_is : sizes.bundled ≡ config.bundled

-- ---- what an input makes of it

-- the bytes of a datagram, as the machine has them: the message that they spell, or noise
abbrev pub datagram_input : List ℕ → Input
datagram_input bytes = option_map_or Received (message_at bytes) ReceivedNoise

-- what a node is handed, as the machine has it
abbrev pub input_of : Handed → Input
input_of (inputs.Asked request) = Asked request.now
input_of (inputs.Received bytes) = datagram_input bytes.now

-- the fact that is to be stored, if the input reaches the rules
abbrev pub fact_to_store : Config → NodeId → NodeState → Input → Option Fact
fact_to_store config who m input =
    if accepts_input who input && m.up then (effect_of config who m.facts m.memory input).fact else None

-- an append of a fact that met no fault of the record's own: all was added, or, where a tear was armed, it was stopped there
abbrev pub HasMet : Option ℕ → Fact → (old new : Held) → Type 0
HasMet None fact old new = IsAdded (fact_frame fact) old new
HasMet (Some n) fact old new = IsStopped (fact_frame fact) old new

-- a fault is true to what befell the record: with nothing to store it is as it was; a record that failed of itself had no tear armed,
-- may fail, and counted it, and the fact is there where its whole frame was kept; want of memory has left it
abbrev pub Befalls : Option Fact → (old new : Held) → Fault → Type 0
Befalls fact old new NoMemoryBefore = ⊥
Befalls fact old new NoMemoryAt = new ≡ old
Befalls None old new NoFault = new ≡ old
Befalls None old new (RecordFails whole) = ⊥
Befalls (Some fact) old new NoFault = HasMet old.armed fact old new
Befalls (Some fact) old new (RecordFails whole) = (old.armed ≡ None) × IsTorn fact old new whole

-- an outcome of the machine is what came of an input
pub record Shows (config : Config) (who : NodeId) (own : List Row) (before : List Fact) (new : Held) (role : Option Role) (out : Output)
    (outcome : Outcome) : Type 0 where
  pub reply_is : out.reply ≡ outcome.answer
  pub now_is : out.now ≡ change_of who before outcome.node.facts
  pub sends_are : out.sends ≡ outcome.sends
  pub stands : Stands config who own new role outcome.node

-- an input was handled as the machine handles it under a fault that is true
pub record Steps (config : Config) (who : NodeId) (own : List Row) (m : NodeState) (input : Input) (old new : Held) (role : Option Role)
    (out : Output) : Type 0 where
  pub fault : Fault
  pub befalls : Befalls (fact_to_store config who m input) old new fault
  pub shows : Shows config who own m.facts new role out (node_step config who m input fault)

-- an input was handled as the machine handles it without a fault, and the record is as it was
pub record StepsFreely (config : Config) (who : NodeId) (own : List Row) (m : NodeState) (input : Input) (old new : Held)
    (role : Option Role) (out : Output) : Type 0 where
  pub same : new ≡ old
  pub shows : Shows config who own m.facts new role out (node_step config who m input NoFault)

-- what is left of a role once a decision was carried out: where it wasn't, the node is down
abbrev pub role_left : Role → Result Output Output → Option Role
role_left role (Ok out) = Some role
role_left role (Err out) = None

-- what is put out, whether the node stays up or goes down
abbrev pub out_of : Result Output Output → Output
out_of (Ok out) = out
out_of (Err out) = out

-- what a place for a role holds then
abbrev pub role_settled : Option Role → (up : Bool) → Option Role
role_settled role true = role
role_settled role false = None

-- ---- the whole node

-- which node it is, of which cluster; the first contents of its table, unless its record says others; its record; and its role, where it
-- is up
pub record NodeParts : Type 0 where
  pub who : NodeId
  pub sizes : Sizes
  pub rows : List Row
  pub held : Held
  pub role : Option Role

-- rows are the first contents of a resource manager's table
abbrev pub HasRows : Config → NodeId → List Row → Type 0
HasRows config (R rm) rows = rows ≡ first_rows config rm
HasRows config who rows = Unit {0}

-- the sizes of a cluster that has acceptors, leaders and resource managers, and no more acceptors than it may
pub record IsSized (sizes : Sizes) : Type 0 where
  pub acceptors : sizes.acceptors ≤ most_acceptors
  pub leaders : 0 < sizes.leaders

-- a node is one of a cluster of these sizes
abbrev pub IsAmong : Sizes → NodeId → Type 0
IsAmong sizes (A a) = a < sizes.acceptors
IsAmong sizes (L l) = l < sizes.leaders
IsAmong sizes (R rm) = rm < sizes.managers

-- a node stands for a node of the machine, in a cluster
pub record NodeStands (config : Config) (node : NodeParts) (m : NodeState) : Type 0 where
  pub sizes_are : AreSizes config node.sizes
  pub stands : Stands config node.who node.rows node.held node.role m

-- each node stands for some node of the machine in some cluster
pub record IsSound (node : NodeParts) : Type 0 where
  pub sized : IsSized node.sizes
  pub among : IsAmong node.sizes node.who
  pub short : are_rows node.rows ≡ true
  pub config : Config
  pub state : NodeState
  pub is : NodeStands config node state

-- what a node is stays, and what its record is by nature
pub record IsSameNode (old new : NodeParts) : Type 0 where
  pub who_is : new.who ≡ old.who
  pub sizes_are : new.sizes ≡ old.sizes
  pub rows_are : new.rows ≡ old.rows
  pub nature_is : new.held.nature ≡ old.held.nature

-- an input was handled as the machine handles it; one that wants no memory to be decided, and stores nothing, without a fault
pub record StepsAs (config : Config) (m : NodeState) (input : Input) (old new : NodeParts) (out : Output) : Type 0 where
  pub same : IsSameNode old new
  pub steps : Steps config old.who old.rows m input old.held new.held new.role out
  pub free : is_free old.who input ≡ true → fact_to_store config old.who m input ≡ None
      → StepsFreely config old.who old.rows m input old.held new.held new.role out
