-- One node with a floor: what it makes of an input, how its floor rises, and what it keeps.
use Rattle.std.specs.Prelude.{Bool, false, not, ◌&&◌, if◌then◌else◌, Option, Some, None}
use Rattle.std.specs.List.{list_all}
use Rattle.xid.specs.declared.codes.XaCode.TheVariants.{DupId, Nota}
use Rattle.xid.specs.declared.refusals.Refusal.TheVariants.{NoSuch, Down, Busy, Forgotten, InUse}
use Rattle.wire.specs.Messages.{message_tx}
use Rattle.stable_record.specs.Facts.{fact_tx}
use Rattle.protocol.specs.declared.requests.Request.{Request}
use Rattle.protocol.specs.declared.requests.Request.TheVariants as requests
use Rattle.safety.specs.Vocabulary.{NodeId, Start, Answer, Done, Code, Refused}
use Rattle.protocol.specs.Effects.{Config}
use Rattle.protocol.specs.Kept.{are_free_below}
use Rattle.protocol.specs.Nodes.{NodeState, Input, Asked, Received, ReceivedNoise, Fault, NoMemoryAt, RecordFails, Outcome}
use Rattle.protocol.specs.Nodes.{accepts_input, effect_of, answer_outcome, effect_outcome, down_answer, compact_outcome, restart_outcome}
use Rattle.xid.specs.Places.{Place, is_lower, is_below, is_xid_below}

-- ---- inputs

-- whether a request is on a name below a floor
abbrev pub is_request_below : Option Place → Request → Bool
is_request_below floor (requests.Call x action) = is_xid_below floor x
is_request_below floor requests.Recover = false
is_request_below floor (requests.View tx) = is_below floor tx
is_request_below floor (requests.Commit tx) = is_below floor tx
is_request_below floor (requests.Status tx) = is_below floor tx
is_request_below floor (requests.Timeout tx) = is_below floor tx

-- whether an input is on a name below a floor
abbrev pub is_input_below : Option Place → Input → Bool
is_input_below floor (Asked request) = is_request_below floor request
is_input_below floor (Received message) = is_below floor (message_tx message)
is_input_below floor ReceivedNoise = false

-- what is answered below a floor: a branch can't be started anew, and there is none of that name; what is asked on a transaction is
-- refused; a message is passed over
abbrev pub forgotten_answer : Input → Answer
forgotten_answer (Asked (requests.Call x Start)) = Code DupId
forgotten_answer (Asked (requests.Call x action)) = Code Nota
forgotten_answer (Asked request) = Refused Forgotten
forgotten_answer input = Done

-- one input at a node: what its kind doesn't take, then a node that is down, then what is below its floor, then the rules
abbrev pub floored_node_step : Config → NodeId → Option Place → NodeState → Input → Fault → Outcome
floored_node_step config who floor node input fault =
    let e = effect_of config who node.facts node.memory input in
    if not (accepts_input who input) then answer_outcome node (Refused NoSuch)
    else if not node.up then answer_outcome node (down_answer input)
    else if is_input_below floor input then answer_outcome node (forgotten_answer input)
    else effect_outcome node e e.fact node.tear fault

-- whether a node does nothing on an input since it is below its floor
abbrev pub is_passed_over : NodeId → Option Place → NodeState → Input → Bool
is_passed_over who floor node input = accepts_input who input && node.up && is_input_below floor input

-- ---- floors rise

-- whether no branch of a resource manager is below a place, neither a prepared one nor one that is kept in memory
abbrev pub is_free_below : Place → NodeState → Bool
is_free_below place node = are_free_below place node.facts node.memory.branches

-- whether a node has stored nothing about any name at or above a place
abbrev pub is_unused_above : Place → NodeState → Bool
is_unused_above place node = list_all (λ fact. is_below (Some place) (fact_tx fact)) node.facts

-- what comes of a node whose floor was to rise: the node, its floor, and the answer
pub record Rise : Type 0 where
  pub node : NodeState
  pub floor : Option Place
  pub answer : Answer

-- it is as it was
abbrev pub kept_rise : Option Place → NodeState → Answer → Rise
kept_rise floor node answer = record { node = node; floor = floor; answer = answer }

-- the floor of a node whose record was to be replaced by one that begins with a place: the old or the new one where that failed
abbrev pub floor_after : Option Place → Place → Fault → Option Place
floor_after floor place NoMemoryAt = floor
floor_after floor place (RecordFails whole) = if whole then Some place else floor
floor_after floor place fault = Some place

-- a floor rises as its node makes its record shorter, which leaves out what is below
abbrev pub risen : Option Place → NodeState → Place → Fault → Rise
risen floor node place fault =
    let left = compact_outcome node fault in
    record { node = left.node; floor = floor_after floor place fault; answer = left.answer }

-- a resource manager is asked to raise its floor: a floor that isn't higher changes nothing, and none rises above a branch
abbrev pub on_raise : Option Place → NodeState → Place → Fault → Rise
on_raise floor node place fault =
    if not node.up then kept_rise floor node (Refused Down)
    else if not (is_lower floor (Some place)) then kept_rise floor node Done
    else if not (is_free_below place node) then kept_rise floor node (Refused Busy)
    else risen floor node place fault

-- an acceptor or a leader is told so much that its floor may be this one, if there is any
abbrev pub on_least : Option Place → NodeState → Option Place → Fault → Rise
on_least floor node None fault = kept_rise floor node Done
on_least floor node (Some place) fault =
    if is_lower floor (Some place) then risen floor node place fault else kept_rise floor node Done

-- ---- a blank node stands in for a lost one

-- whether a blank node with its floor at a place may stand in for a lost one: the place is no lower than the lost one's floor, and the
-- lost one has stored nothing about any name at or above it
abbrev pub may_replace : Option Place → NodeState → Place → Bool
may_replace floor node place = not (is_lower (Some place) floor) && is_unused_above place node

-- where it does, in the machine the lost one is restarted, with the facts of all names below its floor, with which it does nothing any
-- more. Where the blank record couldn't be put there, the lost one's stands there, and its floor
abbrev pub put_in : Config → NodeId → Option Place → NodeState → Place → Fault → Rise
put_in config who floor node place fault =
    let left = restart_outcome config who node fault in
    record { node = left.node; floor = floor_after floor place fault; answer = left.answer }

-- whether what a node has stored couldn't be told: it is down, and its record couldn't be read
abbrev pub is_unread : NodeState → Fault → Bool
is_unread node NoMemoryAt = not node.up
is_unread node (RecordFails whole) = not node.up
is_unread node fault = false

-- why none stands in for it: something is stored, or that couldn't be told
abbrev pub not_put_in : Config → NodeId → NodeState → Fault → Answer
not_put_in config who node fault = if is_unread node fault then (restart_outcome config who node fault).answer else Refused InUse

-- what comes of an acceptor or a leader for which a blank one was to stand in
abbrev pub on_replace : Config → NodeId → Option Place → NodeState → Place → Fault → Rise
on_replace config who floor node place fault =
    if may_replace floor node place then put_in config who floor node place fault
    else kept_rise floor node (not_put_in config who node fault)
