-- Worlds with floors, and one event in them.
use Rattle.std.specs.Prelude.{ℕ, suc, Bool, true, false, ◌==◌, if◌then◌else◌, List, [], ◌∷◌, ◌++◌, length, map, slice_get, Option, Some}
use Rattle.std.specs.Prelude.{None}
use Rattle.std.specs.List.{range_with_len}
use Rattle.xid.specs.declared.refusals.Refusal.TheVariants.{NoMemory, NoSuch, Down}
use Rattle.protocol.specs.declared.events.Event.TheVariants as events
use Rattle.protocol.specs.declared.events.Told.{Told}
use Rattle.protocol.specs.declared.events.Step.{Step}
use Rattle.safety.specs.Vocabulary.{NodeId, A, L, R, Answer, Done, Refused, Event, Ask, Deliver, Restart, Change}
use Rattle.protocol.specs.Effects.{Config}
use Rattle.protocol.specs.Nodes.{NodeState, Input, Asked, Received, Fault, NoMemoryBefore, NoMemoryAt, RecordFails}
use Rattle.protocol.specs.Worlds.{World, Datagram, StepResult, if_found, datagram_at, with_mark, node_at, set_node}
use Rattle.protocol.specs.Worlds.{Occurrence, outcome_result, dispatch, step_of}
use Rattle.xid.specs.Places.{Place, is_lower}
use Rattle.floors.specs.Nodes.{Rise, floored_node_step, on_raise, on_least, may_replace, put_in, not_put_in, is_unread}

-- ---- worlds

-- a message by which a resource manager tells its floor
pub record Notice : Type 0 where
  pub manager : ℕ
  pub receiver : NodeId
  pub place : Place

-- a world of the machine; and beside it the floor of each node, which is stored, what each acceptor and leader was told of each
-- resource manager's since it was last restarted or replaced, whether a node stands in for a lost one, and every message that told a floor
pub record FlooredWorld : Type 0 where
  pub machine : World
  pub floor : NodeId → Option Place
  pub told : NodeId → ℕ → Option Place
  pub is_replaced : NodeId → Bool
  pub notices : List Notice

-- what can happen: an event of the machine, a resource manager is asked to raise its floor, a message that tells one is handed to its
-- receiver (they are numbered from 0 as they are sent), and a blank node with a floor stands in for a lost one
pub data FlooredEvent : Type 0 where
  Machine : (event : Event) → FlooredEvent
  Raise : (who : NodeId) (place : Place) → FlooredEvent
  Hear : (number : ℕ) → FlooredEvent
  Replace : (who : NodeId) (place : Place) → FlooredEvent

-- what came of an event, as in the machine, and the messages that told a floor
pub record FlooredResult : Type 0 where
  pub world : FlooredWorld
  pub answer : Answer
  pub now : Option Change
  pub sent : List Datagram
  pub noticed : List Notice

-- an answer, and nothing else
abbrev pub floored_answer : FlooredWorld → Answer → FlooredResult
floored_answer world answer = record { world = world; answer = answer; now = None; sent = []; noticed = [] }

-- what of a result is the machine's
abbrev pub machine_part : FlooredResult → StepResult
machine_part result = record { world = result.world.machine; answer = result.answer; now = result.now; sent = result.sent }

-- ---- tables by node

-- whether two nodes are the same
abbrev pub is_node : NodeId → NodeId → Bool
is_node (A a) (A b) = a == b
is_node (L a) (L b) = a == b
is_node (R a) (R b) = a == b
is_node n who = false

-- whether a node is a resource manager
abbrev pub is_manager : NodeId → Bool
is_manager (R rm) = true
is_manager who = false

-- a table with another entry for one node
abbrev pub with_entry : {X : Type 0} → (NodeId → X) → NodeId → X → NodeId → X
with_entry table who x n = if is_node n who then x else table n

-- nothing was told
abbrev pub nothing_told : ℕ → Option Place
nothing_told rm = None

-- ---- events of the machine

-- an input at a node with a floor
abbrev pub at_floored_node : Config → World → Option Place → NodeId → Input → Fault → StepResult
at_floored_node config world floor who input fault =
    if_found world (λ node. outcome_result config world who node.facts (floored_node_step config who floor node input fault))
    (node_at config world who)

-- what comes of an event in the machine's world: inputs meet the floor of their node, and all else is as in the machine
abbrev pub machine_result : Config → FlooredWorld → Event → Fault → StepResult
machine_result config world (Ask who request) fault = at_floored_node config world.machine (world.floor who) who (Asked request) fault
machine_result config world (Deliver n) fault =
    if_found world.machine (λ d.
    at_floored_node config (with_mark world.machine n) (world.floor d.receiver) d.receiver (Received d.message) fault)
    (datagram_at world.machine.net n)
machine_result config world event fault = dispatch config world.machine event fault

-- what was told is lost with a restart
abbrev pub told_after : (NodeId → ℕ → Option Place) → Event → NodeId → ℕ → Option Place
told_after told (Restart who) = with_entry told who nothing_told
told_after told event = told

-- an event of the machine moves no floor
abbrev pub on_machine : Config → FlooredWorld → Event → Fault → FlooredResult
on_machine config world event fault =
    let result = machine_result config world event fault in
    record {
      world = record world { machine = result.world; told = told_after world.told event };
      answer = result.answer;
      now = result.now;
      sent = result.sent;
      noticed = [];
    }

-- ---- floors rise

-- a world with a node and its floor as they are after a rise
abbrev pub with_rise : Config → FlooredWorld → NodeId → Rise → FlooredWorld
with_rise config world who rise = record world {
  machine = set_node config world.machine who rise.node;
  floor = with_entry world.floor who rise.floor;
}

-- who is told floors: all acceptors and leaders
abbrev pub told_nodes : Config → List NodeId
told_nodes config = map A (range_with_len 0 config.acceptors) ++ map L (range_with_len 0 config.leaders)

-- a resource manager's floor, told to these
abbrev pub notices_of : Config → ℕ → Option Place → List Notice
notices_of config rm None = []
notices_of config rm (Some place) = map (λ who. record { manager = rm; receiver = who; place = place }) (told_nodes config)

-- whether an answer is done
abbrev pub is_done : Answer → Bool
is_done Done = true
is_done answer = false

-- what comes of a rise at a resource manager: where it is done, its floor is told, also where it was no lower before
abbrev pub raise_result : Config → FlooredWorld → ℕ → Rise → FlooredResult
raise_result config world rm rise =
    let notices = if is_done rise.answer then notices_of config rm rise.floor else [] in
    record {
      world = record (with_rise config world (R rm) rise) { notices = world.notices ++ notices };
      answer = rise.answer;
      now = None;
      sent = [];
      noticed = notices;
    }

-- where something is there; without it the event is refused
abbrev pub floored_if_found : {X : Type 0} → FlooredWorld → (X → FlooredResult) → Option X → FlooredResult
floored_if_found world continue None = floored_answer world (Refused NoSuch)
floored_if_found world continue (Some x) = continue x

-- a node is asked to raise its floor: resource managers alone take that
abbrev pub raise_at : Config → FlooredWorld → NodeId → Place → Fault → FlooredResult
raise_at config world (R rm) place fault =
    floored_if_found world (λ node. raise_result config world rm (on_raise (world.floor (R rm)) node place fault))
    (node_at config world.machine (R rm))
raise_at config world who place fault = floored_answer world (Refused NoSuch)

-- the higher of two floors
abbrev pub higher : Option Place → Option Place → Option Place
higher a b = if is_lower a b then b else a

-- the lower of two floors
abbrev pub lower : Option Place → Option Place → Option Place
lower a b = if is_lower b a then b else a

-- the least of floors, none where there are none
abbrev pub least_of : List (Option Place) → Option Place
least_of [] = None
least_of (first ∷ []) = first
least_of (first ∷ rest) = lower first (least_of rest)

-- what is told of resource managers once one has told its floor: of each the highest
abbrev pub told_with : (ℕ → Option Place) → Notice → ℕ → Option Place
told_with told notice rm = if rm == notice.manager then higher (told rm) (Some notice.place) else told rm

-- the least floor that was told of all resource managers: none, where one of them told none
abbrev pub least_told : Config → (ℕ → Option Place) → Option Place
least_told config told = least_of (map told (range_with_len 0 config.managers))

-- what comes of a message that tells a floor, at an acceptor or a leader: it is kept in memory, and the node's own floor is then the
-- least that was told, where that is higher
abbrev pub hear_result : Config → FlooredWorld → Notice → Fault → NodeState → FlooredResult
hear_result config world notice fault node =
    let who = notice.receiver in
    let told = told_with (world.told who) notice in
    let rise = on_least (world.floor who) node (least_told config told) fault in
    if node.up
    then floored_answer (record (with_rise config world who rise) { told = with_entry world.told who told }) rise.answer
    else floored_answer world (Refused Down)

-- a message that tells a floor is handed to its receiver; to a resource manager it says nothing
abbrev pub hear_at : Config → FlooredWorld → Fault → Notice → FlooredResult
hear_at config world fault notice =
    if is_manager notice.receiver
    then floored_answer world Done
    else floored_if_found world (hear_result config world notice fault) (node_at config world.machine notice.receiver)

-- ---- a blank node stands in for a lost one

-- whether the blank record stands there after a fault: where its frame couldn't be put there, the lost one's does
abbrev pub is_put : Fault → Bool
is_put NoMemoryAt = false
is_put (RecordFails whole) = whole
is_put fault = true

-- a world in which what was told to a node is lost, where it is
abbrev pub with_told_lost : FlooredWorld → NodeId → Bool → FlooredWorld
with_told_lost world who lost = if lost then record world { told = with_entry world.told who nothing_told } else world

-- what was told to the lost one is lost, also where it couldn't be read whether it may be replaced; else nothing changes
abbrev pub replace_result : Config → FlooredWorld → NodeId → Place → Fault → NodeState → FlooredResult
replace_result config world who place fault node =
    let rise = put_in config who (world.floor who) node place fault in
    if may_replace (world.floor who) node place
    then floored_answer (record (with_rise config world who rise) {
      told = with_entry world.told who nothing_told;
      is_replaced = if is_put fault then with_entry world.is_replaced who true else world.is_replaced;
    }) rise.answer
    else floored_answer (with_told_lost world who (is_unread node fault)) (not_put_in config who node fault)

-- an acceptor or a leader is replaced; a resource manager can't be, as its table is its own
abbrev pub replace_at : Config → FlooredWorld → NodeId → Place → Fault → FlooredResult
replace_at config world who place fault =
    if is_manager who
    then floored_answer world (Refused NoSuch)
    else floored_if_found world (replace_result config world who place fault) (node_at config world.machine who)

-- ---- one event

-- what comes of an event that reaches its node, if it has one
abbrev pub floored_dispatch : Config → FlooredWorld → FlooredEvent → Fault → FlooredResult
floored_dispatch config world (Machine event) fault = on_machine config world event fault
floored_dispatch config world (Raise who place) fault = raise_at config world who place fault
floored_dispatch config world (Hear n) fault = floored_if_found world (hear_at config world fault) (slice_get world.notices n)
floored_dispatch config world (Replace who place) fault = replace_at config world who place fault

-- what comes of an event; nothing, where memory is wanted before a node is reached
abbrev pub floored_step : Config → FlooredWorld → FlooredEvent → Fault → FlooredResult
floored_step config world event NoMemoryBefore = floored_answer world (Refused NoMemory)
floored_step config world event fault = floored_dispatch config world event fault

-- ---- events as a cluster meets them

-- what an event is where nodes have floors; notices are numbered from 1 as they are told
abbrev pub with_floors : Event → FlooredEvent
with_floors (events.Raise rm place) = Raise (R rm) place
with_floors (events.Hear (suc n)) = Hear n
with_floors (events.Replace who place) = Replace who place
with_floors event = Machine event

-- what comes of an event where nodes have floors
abbrev pub step_with_floors : Config → FlooredWorld → Event → Fault → FlooredResult
step_with_floors config world event fault = floored_step config world (with_floors event) fault

-- notices by their numbers, the first of which is given
abbrev pub told_from : ℕ → List Notice → List Told
told_from n [] = []
told_from n (notice ∷ rest) =
    record { number = n; manager = notice.manager; receiver = notice.receiver; floor = notice.place } ∷ told_from (suc n) rest

-- the step of an event in a world with floors
abbrev pub floored_step_of : FlooredWorld → Event → FlooredResult → Step
floored_step_of world event result = record (step_of world.machine event (machine_part result)) {
  told = told_from (suc (length world.notices)) result.noticed;
}

-- the steps of events, one after the other
abbrev pub floored_trace : Config → FlooredWorld → List Occurrence → List Step
floored_trace config world [] = []
floored_trace config world (first ∷ rest) =
    let result = step_with_floors config world first.event first.fault in
    floored_step_of world first.event result ∷ floored_trace config result.world rest

-- the world after events
abbrev pub floored_world_after : Config → FlooredWorld → List Occurrence → FlooredWorld
floored_world_after config world [] = world
floored_world_after config world (first ∷ rest) =
    floored_world_after config (step_with_floors config world first.event first.fault).world rest
