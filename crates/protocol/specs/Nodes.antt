-- One node: its facts, whether it is up, an armed tear of its record, and its memory; and one input with its fate.
use Rattle.std.specs.Prelude.{ℕ, Bool, true, false, not, ◌&&◌, nat_lt, nat_le, if◌then◌else◌, List, [], ◌∷◌, ◌++◌, slice_get, Option, Some}
use Rattle.std.specs.Prelude.{None, unwrap_or}
use Rattle.protocol.specs.Basics.{xid_at, XaCode, Refusal, message_tx, Kind, P1a, P1b, P2b, B1a, B1b, B2b, Fact, frame_length}
use Rattle.protocol.specs.Vocabulary.{NodeId, A, L, R, Request, Call, Recover, Timeout, Answer, Done, Code, Refused, Outgoing, Row}
use Rattle.protocol.specs.Facts.{slot, last_ballot}
use Rattle.protocol.specs.LeaderMemory.{LeaderMemory, nothing_heard}
use Rattle.protocol.specs.Tables.{table}
use Rattle.protocol.specs.Effects.{Config, Effect, answer_only, no_effect, is_inside}
use Rattle.protocol.specs.Acceptors.{on_acceptor_message, plays_at_acceptor}
use Rattle.protocol.specs.Leaders.{on_commit_call, on_leader_timeout, on_status_call, on_leader_message, plays_at_leader}
use Rattle.protocol.specs.Managers.{Branch, stored_votes, on_call, on_recover, on_view_call, on_manager_message, on_manager_timeout}
use Rattle.protocol.specs.Managers.{plays_at_manager}

-- what is lost with a restart: what a leader has, and the branches of a resource manager that aren't prepared
pub record Memory : Type 0 where
  pub leader : LeaderMemory
  pub branches : List Branch

-- right after a restart
abbrev pub empty_memory : Memory
empty_memory = record { leader = nothing_heard; branches = [] }

-- the facts stay. The tear says after how many bytes the next append stops
pub record NodeState : Type 0 where
  pub facts : List Fact
  pub up : Bool
  pub tear : Option ℕ
  pub memory : Memory

-- a node at first
abbrev pub new_node : NodeState
new_node = record { facts = []; up = true; tear = None; memory = empty_memory }

-- what a node is handed: a request, a datagram that spells a message, one that spells none
pub data Input : Type 0 where
  Asked : (request : Request) → Input
  Received : (message : Kind) → Input
  ReceivedNoise : Input

-- the fault that meets an event: none; its record fails of itself, and an append has left the whole frame or less; memory is
-- wanted before a node is reached, or at the node
pub data Fault : Type 0 where
  NoFault NoMemoryBefore NoMemoryAt : Fault
  RecordFails : (whole : Bool) → Fault

-- whether a kind of node takes a request: an acceptor none, a leader those on transactions, a resource manager the client calls too
abbrev pub accepts_request : NodeId → Request → Bool
accepts_request (L l) (Request.Commit tx) = true
accepts_request (L l) (Request.Status tx) = true
accepts_request (L l) (Timeout tx) = true
accepts_request (R rm) (Call x action) = true
accepts_request (R rm) Recover = true
accepts_request (R rm) (Request.View tx) = true
accepts_request (R rm) (Timeout tx) = true
accepts_request who request = false

-- whether a kind of node takes an input: any takes datagrams
abbrev pub accepts_input : NodeId → Input → Bool
accepts_input who (Asked request) = accepts_request who request
accepts_input who input = true

-- the acceptor that a message names, if it names one, is one of the cluster
abbrev pub is_acceptor_inside : Config → Kind → Bool
is_acceptor_inside config (P1b tx i b report a) = nat_lt a config.acceptors
is_acceptor_inside config (P2b tx i b v a) = nat_lt a config.acceptors
is_acceptor_inside config (B1b tx b a reports) = nat_lt a config.acceptors
is_acceptor_inside config (B2b tx a accepts) = nat_lt a config.acceptors
is_acceptor_inside config message = true

-- phases 1a, 1b and 2b go in bundles in a bundled cluster, and for each instance alone in every other
abbrev pub is_form_of : (bundled : Bool) → Kind → Bool
is_form_of bundled (P1a tx i b) = not bundled
is_form_of bundled (P1b tx i b report a) = not bundled
is_form_of bundled (P2b tx i b v a) = not bundled
is_form_of bundled (B1a tx b) = bundled
is_form_of bundled (B1b tx b a reports) = bundled
is_form_of bundled (B2b tx a accepts) = bundled
is_form_of bundled message = true

-- a message of the cluster: it names none but nodes of the cluster, and has a form that goes there. Rules take no other
abbrev pub is_message_inside : Config → Kind → Bool
is_message_inside config message =
    is_inside config (message_tx message) && is_acceptor_inside config message && is_form_of config.bundled message

-- the effect on a node of what its role makes of it
abbrev pub in_memory : {M : Type 0} → (M → Memory) → Effect M → Effect Memory
in_memory whole e = record { answer = e.answer; fact = e.fact; sends = e.sends; memory = whole e.memory }

-- a leader keeps what it has since its restart
abbrev pub of_leader : Memory → Effect LeaderMemory → Effect Memory
of_leader memory = in_memory (λ leader. record memory { leader = leader })

-- a resource manager keeps the branches that aren't prepared
abbrev pub of_manager : Memory → Effect (List Branch) → Effect Memory
of_manager memory = in_memory (λ branches. record memory { branches = branches })

-- what a node does on a message of the cluster: an acceptor by its slots, a leader by its stored ballots, a resource manager by what
-- its facts say. An acceptor keeps nothing in memory
abbrev pub on_message : Config → NodeId → List Fact → Memory → Kind → Effect Memory
on_message config (A a) facts memory message = in_memory (λ none. memory) (on_acceptor_message config a (slot facts) message)
on_message config (L l) facts memory message = of_leader memory (on_leader_message config (last_ballot facts) memory.leader message)
on_message config (R rm) facts memory message =
    of_manager memory (on_manager_message rm (stored_votes rm facts) memory.branches (xid_at (message_tx message) rm) message)

-- the first contents of a resource manager's table
abbrev pub first_rows : Config → ℕ → List Row
first_rows config rm = unwrap_or (slice_get config.tables rm) []

-- what a node that is up does on a request
abbrev pub on_request : Config → NodeId → List Fact → Memory → Request → Effect Memory
on_request config (L l) facts memory (Request.Commit tx) = of_leader memory (on_commit_call config (last_ballot facts) memory.leader tx)
on_request config (L l) facts memory (Request.Status tx) = of_leader memory (on_status_call config (last_ballot facts) memory.leader tx)
on_request config (L l) facts memory (Timeout tx) = of_leader memory (on_leader_timeout config l (last_ballot facts) memory.leader tx)
on_request config (R rm) facts memory (Call x action) =
    of_manager memory (on_call rm (stored_votes rm facts) (table (first_rows config rm) facts) memory.branches x action)
on_request config (R rm) facts memory Recover = of_manager memory (on_recover rm (stored_votes rm facts) memory.branches)
on_request config (R rm) facts memory (Request.View tx) =
    of_manager memory (on_view_call config rm (stored_votes rm facts) memory.branches tx)
on_request config (R rm) facts memory (Timeout tx) =
    of_manager memory (on_manager_timeout config rm (stored_votes rm facts) memory.branches tx)
on_request config who facts memory request = answer_only memory (Refused Refusal.NoSuch)

-- what a node that is up does on an input
abbrev pub effect_of : Config → NodeId → List Fact → Memory → Input → Effect Memory
effect_of config who facts memory (Asked request) = on_request config who facts memory request
effect_of config who facts memory (Received message) =
    if is_message_inside config message then on_message config who facts memory message else no_effect memory
effect_of config who facts memory ReceivedNoise = answer_only memory (Refused Refusal.BadMessage)

-- a node after an event, what it answers, and what it sends
pub record Outcome : Type 0 where
  pub node : NodeState
  pub answer : Answer
  pub sends : List Outgoing

-- a node as it is left, an answer, and nothing sent
abbrev pub answer_outcome : NodeState → Answer → Outcome
answer_outcome node answer = record { node = node; answer = answer; sends = [] }

-- a node that goes down: its memory is lost, its facts stay
abbrev pub down_node : NodeState → NodeState
down_node node = record node { up = false; memory = empty_memory }

-- an append that was stopped: the fact is there where its whole frame is; the tear is used up, and nothing is sent
abbrev pub stopped_append : NodeState → Fact → (whole : Bool) → Outcome
stopped_append node fact whole =
    let facts = if whole then node.facts ++ fact ∷ [] else node.facts in
    answer_outcome (record { facts = facts; up = false; tear = None; memory = empty_memory }) (Refused Refusal.RecordFault)

-- a fact appended, or none to append
abbrev pub finished_append : NodeState → Effect Memory → List Fact → Outcome
finished_append node e facts = record {
  node = record { facts = facts; up = true; tear = node.tear; memory = e.memory };
  answer = e.answer;
  sends = e.sends;
}

-- an effect, by its fact, the armed tear and the fault; want of memory stores nothing, and leaves the tear armed
abbrev pub effect_outcome : NodeState → Effect Memory → Option Fact → Option ℕ → Fault → Outcome
effect_outcome node e fact tear NoMemoryAt = answer_outcome (down_node node) (Refused Refusal.NoMemory)
effect_outcome node e None tear fault = finished_append node e node.facts
effect_outcome node e (Some fact) (Some n) fault = stopped_append node fact (nat_le (frame_length fact) n)
effect_outcome node e (Some fact) None (RecordFails whole) = stopped_append node fact whole
effect_outcome node e (Some fact) None fault = finished_append node e (node.facts ++ fact ∷ [])

-- what a node that is down answers
abbrev pub down_answer : Input → Answer
down_answer (Asked (Call x action)) = Code XaCode.RmFail
down_answer (Asked Recover) = Code XaCode.RmFail
down_answer (Asked (Request.View tx)) = Code XaCode.RmFail
down_answer input = Refused Refusal.Down

-- one input at a node: what its kind doesn't take, then a node that is down, then the rules
abbrev pub node_step : Config → NodeId → NodeState → Input → Fault → Outcome
node_step config who node input fault =
    let e = effect_of config who node.facts node.memory input in
    if not (accepts_input who input) then answer_outcome node (Refused Refusal.NoSuch)
    else if not node.up then answer_outcome node (down_answer input)
    else effect_outcome node e e.fact node.tear fault

-- whether a fact plays at a node, after the facts
abbrev pub plays : Config → NodeId → List Fact → Fact → Bool
plays config (A a) facts fact = plays_at_acceptor (slot facts) fact
plays config (L l) facts fact = plays_at_leader config.leaders l (last_ballot facts) fact
plays config (R rm) facts fact = plays_at_manager rm (stored_votes rm facts) fact

-- whether facts play, one after the other, after those before
abbrev pub all_play : Config → NodeId → (before facts : List Fact) → Bool
all_play config who before [] = true
all_play config who before (fact ∷ facts) = plays config who before fact && all_play config who (before ++ fact ∷ []) facts

-- a restart: the record is read, and its facts are played; an armed tear stays
abbrev pub restart_outcome : Config → NodeId → NodeState → Fault → Outcome
restart_outcome config who node NoMemoryAt = answer_outcome (down_node node) (Refused Refusal.NoMemory)
restart_outcome config who node (RecordFails whole) = answer_outcome (down_node node) (Refused Refusal.RecordFault)
restart_outcome config who node fault =
    if all_play config who [] node.facts
    then answer_outcome (record { facts = node.facts; up = true; tear = node.tear; memory = empty_memory }) Done
    else answer_outcome (down_node node) (Refused Refusal.Damaged)

-- a compaction of a node that is up: its record is replaced by one that says the same, so nothing changes; an armed tear stays
abbrev pub compact_outcome : NodeState → Fault → Outcome
compact_outcome node NoMemoryAt = answer_outcome (down_node node) (Refused Refusal.NoMemory)
compact_outcome node (RecordFails whole) = answer_outcome (down_node node) (Refused Refusal.RecordFault)
compact_outcome node fault = answer_outcome node Done
