-- A node with a floor: which node of the machine it stands for, and what is made of both.
use Rattle.std.specs.Prelude.{◌≡◌, ◌⊎◌, ℕ, Bool, true, false, ◌&&◌, if◌then◌else◌, is_some, not, List, [], ◌∷◌, ◌++◌, map, Option, Some}
use Rattle.std.specs.Prelude.{None, Result, Ok, Err}
use Rattle.xid.specs.Places.{Place, is_below, is_lower}
use Rattle.xid.specs.Transactions.{TxParts}
use Rattle.xid.specs.declared.refusals.Refusal.{Refusal}
use Rattle.stable_record.specs.declared.fact.FactKind.{FactKind as Fact}
use Rattle.stable_record.specs.declared.record.RecordError.{RecordError}
use Rattle.stable_record.specs.Behind.{behind, BeginsWith, IsFronting}
use Rattle.stable_record.specs.Floors.{front_of, floor_of}
use Rattle.stable_record.specs.Held.{HasRead, Held, refusal_of}
use Rattle.protocol.specs.declared.answers.Answer.TheVariants.{Refused}
use Rattle.protocol.specs.declared.nodes.NodeId.{NodeId}
use Rattle.protocol.specs.declared.nodes.NodeId.TheVariants.{R}
use Rattle.protocol.specs.declared.rows.Row.{Row}
use Rattle.protocol.specs.declared.states.View.{View}
use Rattle.protocol.specs.Effects.{Config}
use Rattle.protocol.specs.Nodes.{NodeState, Input, Fault, NoFault, NoMemoryBefore, NoMemoryAt, RecordFails, Outcome, accepts_input}
use Rattle.protocol.specs.Nodes.{compact_outcome, restart_outcome}
use Rattle.protocol.specs.Worlds.{change_of}
use Rattle.node_core.specs.declared.output.Output.{Output}
use Rattle.node_core.specs.declared.role.Role.{Role}
use Rattle.node_core.specs.Nodes.{NodeParts, NodeStands, IsSameNode, Befalls, fact_to_store}
use Rattle.node_core.specs.Opening.{BefallsRestart, IsOpened, IsUnopened, restart_answer}
use Rattle.node_core.specs.Compacting.{BefallsCompact}
use Rattle.node_core.specs.Groups.{AppendsOnce, IsSameButKept, Place as At}
use Rattle.node_core.specs.Raising.{HasCountedFault, RaisesAs}
use Rattle.node_core.specs.Sparing.{is_free}
use Rattle.node_core.specs.Storing.{output_of}
use Rattle.node_core.specs.Viewing.{IsUnread, SaysTable, SaysView}
use Rattle.floors.specs.Nodes.{Rise, floored_node_step, forgotten_answer, is_input_below, is_passed_over, kept_rise, on_least, on_raise}
use Rattle.floors.specs.Nodes.{may_replace, on_replace}
use Rattle.forgetting.specs.Above.{StandsAbove}

-- a floor, and the node that sees what stands behind it in the record
pub record FlooredParts : Type 0 where
  pub floor : Option Place
  pub node : NodeParts

-- the first of fronts, or an empty one
abbrev pub first_front : List (List ℕ) → List ℕ
first_front [] = []
first_front (front ∷ beneath) = front

-- the floor that stands in front of what is held
abbrev pub floor_before : Held → Option Place
floor_before held = floor_of (first_front held.nature.fronts)

-- a node, and the floor that its record stands behind
abbrev pub with_floor : NodeParts → FlooredParts
with_floor node = record { floor = floor_before node.held; node = node }

-- a node stands for a node of the machine, of which it may have forgotten what is below its floor
pub record FlooredStands (config : Config) (floored : FlooredParts) (m : NodeState) : Type 0 where
  pub from : Config
  pub few : NodeState
  pub is : NodeStands from floored.node few
  pub above : StandsAbove from config floored.node.who floored.floor few m

-- each node with a floor stands behind it for some node of the machine in some cluster; while it is up, it knows its floor
pub record IsFlooredSound (known : Option Place) (node : NodeParts) : Type 0 where
  pub front : IsFronting (floor_before node.held) node.held
  pub known_is : is_some node.role ≡ true → known ≡ floor_before node.held
  pub config : Config
  pub state : NodeState
  pub is : FlooredStands config (with_floor node) state

-- ---- opened

-- a node was opened: its floor is the one that its record begins with, if it begins with one, and what stands behind that is the node's
pub record IsFlooredOpened (config : Config) (who : NodeId) (old : Held) (floored : FlooredParts) : Type 0 where
  pub floor_is : floored.floor ≡ floor_of old.bytes
  pub opened : IsOpened config who (behind (front_of floored.floor) old) floored.node

-- why a node wasn't opened, and what is left of its record: what an opening leaves behind the floor; its bytes are what they were, or
-- begin with the floor's frame
pub record IsFlooredUnopened (config : Config) (who : NodeId) (old new : Held) (refusal : Refusal) : Type 0 where
  pub unopened : IsUnopened config who (behind (front_of (floor_of old.bytes)) old) (behind (front_of (floor_of old.bytes)) new) refusal
  pub begins : (new.bytes ≡ old.bytes) ⊎ BeginsWith (front_of (floor_of old.bytes)) new.bytes

-- ---- what an input makes of it

-- whether a node of this name does nothing on an input since it is below its floor, by its role
abbrev pub is_over : NodeId → Option Place → Option Role → Input → Bool
is_over who floor role input = is_input_below floor input && (is_some role && accepts_input who input)

-- the fact that is to be stored, if the input reaches the rules
abbrev pub floored_fact : Config → NodeId → Option Place → NodeState → Input → Option Fact
floored_fact config who floor m input = if is_passed_over who floor m input then None else fact_to_store config who m input

-- an output is what came of an input at a node that had stored these facts before
pub record IsOutput (who : NodeId) (before : List Fact) (out : Output) (outcome : Outcome) : Type 0 where
  pub reply_is : out.reply ≡ outcome.answer
  pub now_is : out.now ≡ change_of who before outcome.node.facts
  pub sends_are : out.sends ≡ outcome.sends

-- an input was handled as the machine's node with a floor handles it, under a fault that is true
pub record FlooredDoes (config : Config) (who : NodeId) (floor : Option Place) (from : At) (input : Input) (out : Output) (to : At) : Type 0
  where
    pub fault : Fault
    pub befalls : Befalls (floored_fact config who floor from.state input) from.held to.held fault
    pub output_is : IsOutput who from.state.facts out (floored_node_step config who floor from.state input fault)
    pub state_is : to.state ≡ (floored_node_step config who floor from.state input fault).node

-- the same of the node, without a fault, and its record is as it was
pub record FlooredDoesFreely (config : Config) (m : NodeState) (input : Input) (old new : FlooredParts) (out : Output) : Type 0 where
  pub same : new.node.held ≡ old.node.held
  pub output_is : IsOutput old.node.who m.facts out (floored_node_step config old.node.who old.floor m input NoFault)
  pub stands : FlooredStands config new (floored_node_step config old.node.who old.floor m input NoFault).node

-- a node handled an input so. One that is below the floor changed nothing, and was answered so; one that wants no memory to be decided,
-- and stores nothing, met no fault
pub record FlooredStepsAs (config : Config) (m : NodeState) (input : Input) (old new : FlooredParts) (out : Output) : Type 0 where
  pub floor_is : new.floor ≡ old.floor
  pub same : IsSameNode old.node new.node
  pub to : At
  pub held_is : to.held ≡ new.node.held
  pub does : FlooredDoes config old.node.who old.floor (record { state = m; held = old.node.held; role = old.node.role }) input out to
  pub stands : FlooredStands config new to.state
  pub below : is_passed_over old.node.who old.floor m input ≡ true
      → (new.node ≡ old.node) × (out ≡ output_of (forgotten_answer input) None)
  pub free : is_free old.node.who input ≡ true → floored_fact config old.node.who old.floor m input ≡ None
      → FlooredDoesFreely config m input old new out

-- ---- a group

-- whether no input of a group is below a floor
abbrev pub are_above : Option Place → List Input → Bool
are_above floor [] = true
are_above floor (input ∷ inputs) = not (is_input_below floor input) && are_above floor inputs

-- inputs were handled one after another as the machine's node with a floor handles them
abbrev pub FlooredRuns : Config → NodeId → Option Place → At → List Input → List Output → At → Type 0
FlooredRuns config who floor from [] [] to = to ≡ from
FlooredRuns config who floor from (input ∷ inputs) (out ∷ outs) to =
    (next : At) × FlooredDoes config who floor from input out next × FlooredRuns config who floor next inputs outs to
FlooredRuns config who floor from inputs outs to = ⊥

-- the append of a group was refused: the inputs before one of them were handled, this one as where its own append is refused, and those
-- behind it weren't
pub record FlooredStops (config : Config) (who : NodeId) (floor : Option Place) (from : At) (inputs : List Input) (new : FlooredParts)
    (why : Refusal) : Type 0 where
  pub before : List Input
  pub at : Input
  pub after : List Input
  pub inputs_are : inputs ≡ before ++ at ∷ after
  pub outs : List Output
  pub place : At
  pub runs : FlooredRuns config who floor from before outs place
  pub out : Output
  pub to : At
  pub stopped : FlooredDoes config who floor place at out to
  pub reply_is : out.reply ≡ Refused why
  pub held_is : IsSameButKept to.held new.node.held
  pub stands : FlooredStands config new to.state

-- what comes of a group of which no input is below the floor: each was handled, and one append stored all; or that was refused, and then
-- the node is down, and each is answered so
abbrev pub FlooredGroups : Config → NodeId → Option Place → (from : At) → List Input → (new : FlooredParts) → List Output
    → Result (Unit {0}) RecordError → Type 0
FlooredGroups config who floor from inputs new outs (Ok done) =
    (to : At) × FlooredRuns config who floor from inputs outs to × IsSameButKept to.held new.node.held × FlooredStands config new to.state
FlooredGroups config who floor from inputs new outs (Err error) =
    FlooredStops config who floor from inputs new (refusal_of error) × (new.node.role ≡ None)
    × (outs ≡ map (λ (input : Input). output_of (Refused (refusal_of error)) None) inputs)

-- the same of the whole node, whose record met one append at most
pub record FlooredGroupsAs (config : Config) (m : NodeState) (inputs : List Input) (old new : FlooredParts) (outs : List Output)
    (result : Result (Unit {0}) RecordError) : Type 0 where
  pub floor_is : new.floor ≡ old.floor
  pub same : IsSameNode old.node new.node
  pub once : AppendsOnce old.node.held new.node.held result
  pub comes : FlooredGroups config old.node.who old.floor (record { state = m; held = old.node.held; role = old.node.role }) inputs new outs
      result

-- ---- asked

-- a view is what the machine's node with a floor answers: of what is below the floor a resource manager says that it is over
abbrev pub SaysFlooredView : Config → NodeId → Option Place → List Fact → TxParts → Result View Refusal → Type 0
SaysFlooredView config (R rm) floor facts tx result =
    (is_below floor tx ≡ true → result ≡ Err Refusal.Forgotten) × (is_below floor tx ≡ false → SaysView config (R rm) facts tx result)
SaysFlooredView config who floor facts tx result = SaysView config who facts tx result

-- a node was asked where it stands in a transaction, or for its table: it stays what it is, and nothing has changed where it says so; else
-- its record couldn't be read
pub record FlooredSays {X : Type 0} (config : Config) (m : NodeState) (old new : FlooredParts) (Says : Type 0) (result : Result X Refusal)
    : Type 0 where
  pub floor_is : new.floor ≡ old.floor
  pub same : IsSameNode old.node new.node
  pub role_is : new.node.role ≡ old.node.role
  pub stands : FlooredStands config new m
  pub says : ((new ≡ old) × Says) ⊎ IsUnread old.node.held new.node.held old.node.role result

-- its floor was learned; or, where it is down, the read of its record that was to tell it failed
abbrev pub LearnsOwn : (old new : FlooredParts) → Result (Option Place) Refusal → Type 0
LearnsOwn old new (Ok floor) = (floor ≡ old.floor) × (new ≡ old)
LearnsOwn old new (Err refusal) =
    (old.node.role ≡ None) × (new.floor ≡ old.floor) × (new.node ≡ record old.node { held = new.node.held })
    × ((error : RecordError) × (refusal ≡ refusal_of error) × HasRead {T = Unit {0}} old.node.held new.node.held (Err error))

-- asked where it stands in a transaction
abbrev pub FlooredViews : Config → NodeState → (old new : FlooredParts) → TxParts → Result View Refusal → Type 0
FlooredViews config m old new tx result =
    FlooredSays config m old new (SaysFlooredView config old.node.who old.floor m.facts tx result) result

-- asked for its table: the one that all facts give, also those that it has forgotten
abbrev pub FlooredTables : Config → NodeState → (old new : FlooredParts) → Result (List Row) Refusal → Type 0
FlooredTables config m old new result = FlooredSays config m old new (SaysTable config old.node.who m.facts result) result

-- ---- restarted, made shorter, and raised

-- a node restarted as the machine's does, over what stands behind its floor, which stays, under a fault that is true
pub record FlooredRestarts (config : Config) (m : NodeState) (old new : FlooredParts) (result : Result (Unit {0}) Refusal) : Type 0 where
  pub floor_is : new.floor ≡ old.floor
  pub same : IsSameNode old.node new.node
  pub fault : Fault
  pub befalls : BefallsRestart old.node.held new.node.held fault
  pub answer_is : restart_answer result ≡ (restart_outcome config old.node.who m fault).answer
  pub stands : FlooredStands config new (restart_outcome config old.node.who m fault).node

-- what stands behind a node's floor was made shorter, as the machine's node is compacted
pub record FlooredCompactsUp (config : Config) (m : NodeState) (old new : FlooredParts) (result : Result (Unit {0}) Refusal) : Type 0 where
  pub up : m.up ≡ true
  pub fault : Fault
  pub befalls : BefallsCompact old.node.held new.node.held fault
  pub answer_is : restart_answer result ≡ (compact_outcome m fault).answer
  pub stands : FlooredStands config new (compact_outcome m fault).node

-- a node that is down isn't compacted, and stays as it was
pub record FlooredCompactsDown (config : Config) (m : NodeState) (old new : FlooredParts) (result : Result (Unit {0}) Refusal) : Type 0
  where
    pub down : m.up ≡ false
    pub result_is : result ≡ Err Refusal.Down
    pub held_is : new.node.held ≡ old.node.held
    pub stands : FlooredStands config new m

-- what stands behind a node's floor was to be made shorter; the floor stays
pub record FlooredCompacts (config : Config) (m : NodeState) (old new : FlooredParts) (result : Result (Unit {0}) Refusal) : Type 0 where
  pub floor_is : new.floor ≡ old.floor
  pub same : IsSameNode old.node new.node
  pub comes : FlooredCompactsUp config m old new result ⊎ FlooredCompactsDown config m old new result

-- what comes of the machine's node whose floor was to rise: a resource manager's doesn't rise above a branch. Who else rises has been told
-- that it may
abbrev pub on_rise : NodeId → Option Place → NodeState → Place → Fault → Rise
on_rise (R rm) floor m place fault = on_raise floor m place fault
on_rise who floor m place fault = if m.up then on_least floor m (Some place) fault else kept_rise floor m (Refused Refusal.Down)

-- a fault of a rise is true to what befell the record
abbrev pub BefallsRise : (old new : Held) → Fault → Type 0
BefallsRise old new NoFault = (new.faults ≡ old.faults) × (new.armed ≡ old.armed)
BefallsRise old new NoMemoryBefore = ⊥
BefallsRise old new NoMemoryAt = new ≡ old
BefallsRise old new (RecordFails whole) = HasCountedFault old new

-- what comes of the node beneath: one that is down stays as it was, and so does one whose floor isn't lower; else what `Node::raise` says
pub record RaisesNode (place : Place) (old new : FlooredParts) (result : Result (Unit {0}) Refusal) : Type 0 where
  pub down : is_some old.node.role ≡ false → (result ≡ Err Refusal.Down) × (new ≡ old)
  pub low : is_some old.node.role ≡ true → is_lower old.floor (Some place) ≡ false → (result ≡ Ok tt) × (new ≡ old)
  pub higher : is_some old.node.role ≡ true → is_lower old.floor (Some place) ≡ true → (config : Config) (m : NodeState)
      → NodeStands config old.node m → RaisesAs config m place old.node new.node result

-- a node's floor was to rise to a place, and did what the machine's does, under a fault that is true
pub record FlooredRaises (config : Config) (m : NodeState) (place : Place) (old new : FlooredParts) (result : Result (Unit {0}) Refusal)
    : Type 0 where
  pub who_is : new.node.who ≡ old.node.who
  pub sizes_are : new.node.sizes ≡ old.node.sizes
  pub rows_are : new.node.rows ≡ old.node.rows
  pub fault : Fault
  pub befalls : BefallsRise old.node.held new.node.held fault
  pub floor_is : new.floor ≡ (on_rise old.node.who old.floor m place fault).floor
  pub answer_is : restart_answer result ≡ (on_rise old.node.who old.floor m place fault).answer
  pub stands : FlooredStands config new (on_rise old.node.who old.floor m place fault).node

-- ---- a blank node stands in for it

-- asked whether a blank node with its floor at a place may stand in for it
abbrev pub FlooredMayReplace : Config → NodeState → (old new : FlooredParts) → Place → Result Bool Refusal → Type 0
FlooredMayReplace config m old new place result = FlooredSays config m old new (result ≡ Ok (may_replace old.floor m place)) result

-- a fault of a replacement is true to what befell the record
abbrev pub BefallsReplace : (old new : Held) → Fault → Type 0
BefallsReplace old new NoFault = (new.faults ≡ old.faults) × (new.armed ≡ old.armed)
BefallsReplace old new NoMemoryBefore = ⊥
BefallsReplace old new NoMemoryAt = (new.faults ≡ old.faults) × (new.armed ≡ old.armed)
BefallsReplace old new (RecordFails whole) = HasCountedFault old new

-- a blank node with its floor at a place was to stand in for it, and what came of that comes of the machine's node, under a fault that is
-- true
pub record FlooredReplaces (config : Config) (m : NodeState) (place : Place) (old new : FlooredParts) (result : Result (Unit {0}) Refusal)
    : Type 0 where
  pub who_is : new.node.who ≡ old.node.who
  pub sizes_are : new.node.sizes ≡ old.node.sizes
  pub rows_are : new.node.rows ≡ old.node.rows
  pub may_fail_is : new.node.held.nature.may_fail ≡ old.node.held.nature.may_fail
  pub fault : Fault
  pub befalls : BefallsReplace old.node.held new.node.held fault
  pub floor_is : new.floor ≡ (on_replace config old.node.who old.floor m place fault).floor
  pub answer_is : restart_answer result ≡ (on_replace config old.node.who old.floor m place fault).answer
  pub stands : FlooredStands config new (on_replace config old.node.who old.floor m place fault).node
