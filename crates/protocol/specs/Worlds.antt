-- All nodes, and every datagram that was ever sent; and one event.
use Rattle.std.specs.Prelude.{ℕ, zero, suc, ◌+◌, Bool, true, false, ◌==◌, nat_lt, if◌then◌else◌, List, [], ◌∷◌, ◌++◌, length, map}
use Rattle.std.specs.Prelude.{replicate, slice_get, Option, Some, None}
use Rattle.protocol.specs.Basics.{flat_map, slice_set, option_map_or, option_and_then, Refusal, spelling, message_tx, spells_message, Kind}
use Rattle.protocol.specs.Basics.{Fact, fact_tx}
use Rattle.protocol.specs.Vocabulary.{NodeId, A, L, R, View, Row, Outgoing, Answer, Done, Refused, Event, Ask, Deliver, Lose, Cut, Noise}
use Rattle.protocol.specs.Vocabulary.{Tear, Restart, Compact, Change, Sent, Step}
use Rattle.protocol.specs.Facts.{view}
use Rattle.protocol.specs.Tables.{table}
use Rattle.protocol.specs.Effects.{Config, receivers}
use Rattle.protocol.specs.Nodes.{NodeState, new_node, Input, Asked, Received, ReceivedNoise, Fault, first_rows, Outcome, node_step}
use Rattle.protocol.specs.Nodes.{restart_outcome, compact_outcome, NoMemoryBefore}

-- a datagram that was sent; one that was handed over or lost is marked
pub record Datagram : Type 0 where
  pub sender : NodeId
  pub receiver : NodeId
  pub message : Kind
  pub marked : Bool

-- the acceptors, then the leaders, then the resource managers; datagrams are numbered from 1 as they stand
pub record World : Type 0 where
  pub nodes : List NodeState
  pub net : List Datagram

-- a world at first
abbrev pub opening : Config → World
opening config = record { nodes = replicate (config.acceptors + config.leaders + config.managers) new_node; net = [] }

-- what came of an event: the world after it, the answer, the view that it changed, and the datagrams that it sent
pub record StepResult : Type 0 where
  pub world : World
  pub answer : Answer
  pub now : Option Change
  pub sent : List Datagram

-- where a node stands
abbrev pub place : Config → NodeId → Option ℕ
place config (A a) = if nat_lt a config.acceptors then Some a else None
place config (L l) = if nat_lt l config.leaders then Some (config.acceptors + l) else None
place config (R rm) = if nat_lt rm config.managers then Some (config.acceptors + config.leaders + rm) else None

-- the node of a name
abbrev pub node_at : Config → World → NodeId → Option NodeState
node_at config world who = option_and_then (λ at. slice_get world.nodes at) (place config who)

-- the world with another node in its place
abbrev pub set_node : Config → World → NodeId → NodeState → World
set_node config world who node = record world { nodes = option_map_or (λ at. slice_set world.nodes at node) (place config who) world.nodes }

-- an answer, and nothing sent
abbrev pub answer_result : World → Answer → StepResult
answer_result world answer = record { world = world; answer = answer; now = None; sent = [] }

-- a message that was just sent to a receiver
abbrev pub datagram_to : NodeId → Kind → NodeId → Datagram
datagram_to sender message receiver = record { sender = sender; receiver = receiver; message = message; marked = false }

-- one datagram to each receiver
abbrev pub datagrams_of : Config → NodeId → Outgoing → List Datagram
datagrams_of config who send = map (datagram_to who send.message) (receivers config send.to (message_tx send.message))

-- views by number, to compare them
abbrev pub view_number : View → ℕ
view_number View.Working = 0
view_number View.Prepared = 1
view_number View.Committed = 2
view_number View.Aborted = 3

-- the change of a view at a resource manager, by the facts before and after
abbrev pub change_of : NodeId → List Fact → List Fact → Option Change
change_of (R rm) before after = option_and_then (λ fact.
    let tx = fact_tx fact in
    if view_number (view before tx) == view_number (view after tx) then None else Some (record { rm = rm; tx = tx; view = view after tx }))
    (slice_get after (length before))
change_of who before after = None

-- a node's outcome in the world
abbrev pub outcome_result : Config → World → NodeId → List Fact → Outcome → StepResult
outcome_result config world who before outcome =
    let sent = flat_map (datagrams_of config who) outcome.sends in record {
      world = record (set_node config world who outcome.node) { net = world.net ++ sent };
      answer = outcome.answer;
      now = change_of who before outcome.node.facts;
      sent = sent;
    }

-- what comes of an event where something is there; without it the event is refused
abbrev pub if_found : {X : Type 0} → World → (X → StepResult) → Option X → StepResult
if_found world continue None = answer_result world (Refused Refusal.NoSuch)
if_found world continue (Some x) = continue x

-- an input at a node
abbrev pub at_node : Config → World → NodeId → Input → Fault → StepResult
at_node config world who input fault =
    if_found world (λ node. outcome_result config world who node.facts (node_step config who node input fault)) (node_at config world who)

-- the datagram of a number, from 1
abbrev pub datagram_at : List Datagram → ℕ → Option Datagram
datagram_at net zero = None
datagram_at net (suc n) = slice_get net n

-- datagrams with the one of a number marked
abbrev pub mark_at : List Datagram → ℕ → List Datagram
mark_at [] n = []
mark_at (d ∷ net) zero = d ∷ net
mark_at (d ∷ net) (suc zero) = record d { marked = true } ∷ net
mark_at (d ∷ net) (suc (suc n)) = d ∷ mark_at net (suc n)

-- a world with a datagram marked
abbrev pub with_mark : World → ℕ → World
with_mark world n = record world { net = mark_at world.net n }

-- the first k bytes handed over: they are fewer than all, and spell no message
abbrev pub cut_result : Config → World → ℕ → ℕ → Fault → StepResult
cut_result config world n k fault =
    if_found world (λ d.
    if nat_lt k (length (spelling d.message))
    then at_node config world d.receiver ReceivedNoise fault
    else answer_result world (Refused Refusal.NoSuch))
    (datagram_at world.net n)

-- what comes of an event that reaches its node, if it has one. No node of the machine has a floor, or is replaced
abbrev pub dispatch : Config → World → Event → Fault → StepResult
dispatch config world (Ask who request) fault = at_node config world who (Asked request) fault
dispatch config world (Deliver n) fault =
    if_found world (λ d. at_node config (with_mark world n) d.receiver (Received d.message) fault) (datagram_at world.net n)
dispatch config world (Lose n) fault = if_found world (λ d. answer_result (with_mark world n) Done) (datagram_at world.net n)
dispatch config world (Cut n k) fault = cut_result config world n k fault
dispatch config world (Noise who bytes) fault =
    if spells_message bytes
    then if_found world (λ node. answer_result world (Refused Refusal.Forged)) (node_at config world who)
    else at_node config world who ReceivedNoise fault
dispatch config world (Tear who n) fault =
    if_found world (λ node. answer_result (set_node config world who (record node { tear = Some n })) Done) (node_at config world who)
dispatch config world (Restart who) fault =
    if_found world (λ node. outcome_result config world who node.facts (restart_outcome config who node fault)) (node_at config world who)
dispatch config world (Compact who) fault =
    if_found world (λ node.
    if node.up then outcome_result config world who node.facts (compact_outcome node fault) else answer_result world (Refused Refusal.Down))
    (node_at config world who)
dispatch config world event fault = answer_result world (Refused Refusal.NoSuch)

-- what comes of an event; nothing, where memory is wanted before a node is reached
abbrev pub world_step : Config → World → Event → Fault → StepResult
world_step config world event NoMemoryBefore = answer_result world (Refused Refusal.NoMemory)
world_step config world event fault = dispatch config world event fault

-- an event, and the fault that meets it
pub record Occurrence : Type 0 where
  pub event : Event
  pub fault : Fault

-- datagrams by their numbers, the first of which is given
abbrev pub numbered : ℕ → List Datagram → List Sent
numbered n [] = []
numbered n (d ∷ rest) = record { number = n; sender = d.sender; receiver = d.receiver; message = d.message } ∷ numbered (suc n) rest

-- the step of an event in a world
abbrev pub step_of : World → Event → StepResult → Step
step_of world event result =
    record { event = event; answer = result.answer; now = result.now; sent = numbered (suc (length world.net)) result.sent; told = [] }

-- the steps of events, one after the other
abbrev pub trace : Config → World → List Occurrence → List Step
trace config world [] = []
trace config world (first ∷ rest) =
    let result = world_step config world first.event first.fault in step_of world first.event result ∷ trace config result.world rest

-- the world after events
abbrev pub world_after : Config → World → List Occurrence → World
world_after config world [] = world
world_after config world (first ∷ rest) = world_after config (world_step config world first.event first.fault).world rest

-- the table of a resource manager, whether it is up or down: the one that its facts give
abbrev pub table_at : Config → World → ℕ → List Row
table_at config world rm = option_map_or (λ node. table (first_rows config rm) node.facts) (node_at config world (R rm)) []
