-- The faults that meet an event, a node that is down, and a leader that has no ballot left.
use Rattle.std.specs.Prelude.{◌≡◌, refl, ◌-◌, ◌^◌, ℕ, true, false, List, [], ◌∷◌, ◌++◌, map, None}
use Rattle.xid.specs.declared.codes.XaCode.TheVariants as codes
use Rattle.xid.specs.declared.refusals.Refusal.TheVariants.{NoMemory, RecordFault, Down, NoBallot, NoSuch}
use Rattle.stable_record.specs.declared.fact.FactKind.TheVariants.{Ballot}
use Rattle.protocol.specs.declared.states.View.TheVariants as views
use Rattle.protocol.specs.declared.states.Standing.TheVariants as standings
use Rattle.protocol.specs.Vocabulary.{A, L, R, Answer, Done, Code, Stands, Refused, Event, Deliver, Lose, Tear, Restart, Compact, Start}
use Rattle.protocol.specs.Vocabulary.{Timeout}
use Rattle.protocol.specs.Effects.{Config}
use Rattle.protocol.specs.Nodes.{NodeState, new_node, Fault, NoFault, NoMemoryBefore, NoMemoryAt, RecordFails, Asked, node_step}
use Rattle.protocol.specs.Worlds.{StepResult, world_step}
use Rattle.protocol.proofs.RowWords.{z, one, cluster, run, next, call, recover, changes, one_ended, commit, status, timeout, view}

abbrev c : Config
c = cluster 1 1 1

-- a vote that meets a fault
abbrev vote : Fault → StepResult
vote fault = world_step c (run c one_ended) (Deliver 1) fault

-- an event after that
abbrev after : Fault → Event → StepResult
after fault event = world_step c (vote fault).world event NoFault

-- memory is wanted before the node is reached: nothing has changed, not even the mark
pub wanted_before : (vote NoMemoryBefore).answer ≡ Refused NoMemory
wanted_before = refl

pub nothing_changed : (vote NoMemoryBefore).world ≡ run c one_ended
nothing_changed = refl

-- memory is wanted at the node: it is down, and nothing is stored
pub wanted_at : (vote NoMemoryAt).answer ≡ Refused NoMemory
wanted_at = refl

pub down_then : (after NoMemoryAt (recover 0)).answer ≡ Code codes.RmFail
down_then = refl

pub nothing_stored : (vote NoMemoryAt).now ≡ None
nothing_stored = refl

-- the record fails and has kept less than the frame, or the whole of it: the node is down, and the vote stands or doesn't
pub fails : (vote (RecordFails false)).answer ≡ Refused RecordFault
fails = refl

pub without_vote : (vote (RecordFails false)).now ≡ None
without_vote = refl

pub fails_late : (vote (RecordFails true)).answer ≡ Refused RecordFault
fails_late = refl

pub with_vote : (vote (RecordFails true)).now ≡ changes 0 one views.Prepared
with_vote = refl

pub nothing_sent : (vote (RecordFails true)).sent ≡ []
nothing_sent = refl

-- what stores nothing meets no fault of the record
pub reads_on : (world_step c (run c one_ended) (status 0 one) (RecordFails true)).answer ≡ Stands standings.Undecided
reads_on = refl

-- ---- a node that is down

-- torn, r0 is down; so is l0, which wanted memory at a timeout
abbrev torn : List Event
torn = one_ended ++ Tear (R 0) 0 ∷ Deliver 1 ∷ []

abbrev answers_down : List Event → List Answer
answers_down events = map (λ event. (next c torn event).answer) events

-- client calls -7; a timeout, a datagram and a compaction 8
pub down_manager : answers_down (call 0 z Start ∷ recover 0 ∷ view 0 one ∷ timeout (R 0) one ∷ Deliver 1 ∷ Compact (R 0) ∷ [])
    ≡ Code codes.RmFail ∷ Code codes.RmFail ∷ Code codes.RmFail ∷ Refused Down ∷ Refused Down ∷ Refused Down ∷ []
down_manager = refl

pub up_again : answers_down (Restart (R 0) ∷ []) ≡ Done ∷ []
up_again = refl

abbrev leader_down : Event → StepResult
leader_down event = world_step c (world_step c (run c one_ended) (timeout (L 0) one) NoMemoryAt).world event NoFault

pub down_leader : map (λ event. (leader_down event).answer) (commit 0 one ∷ status 0 one ∷ timeout (L 0) one ∷ Restart (L 0) ∷ [])
    ≡ Refused Down ∷ Refused Down ∷ Refused Down ∷ Done ∷ []
down_leader = refl

-- a restart that meets a fault leaves the node down, and its facts as they were
pub restart_fails : (world_step c (run c torn) (Restart (R 0)) (RecordFails false)).answer ≡ Refused RecordFault
restart_fails = refl

-- a kind of node that doesn't take the call, a node that isn't there, a datagram that isn't there
pub none_such : map (λ event. (next c [] event).answer) (timeout (A 0) one ∷ commit 1 one ∷ Restart (R 1) ∷ Lose 1 ∷ [])
    ≡ Refused NoSuch ∷ Refused NoSuch ∷ Refused NoSuch ∷ Refused NoSuch ∷ []
none_such = refl

-- ---- no ballot left

-- a leader that has stored a ballot
abbrev leader_at : ℕ → NodeState
leader_at b = record new_node { facts = Ballot one b ∷ [] }

pub last_ballot_taken : (node_step c (L 0) (leader_at (2 ^ 32 - 2)) (Asked (Timeout one)) NoFault).answer ≡ Done
last_ballot_taken = refl

pub no_ballot_left : (node_step c (L 0) (leader_at (2 ^ 32 - 1)) (Asked (Timeout one)) NoFault).answer ≡ Refused NoBallot
no_ballot_left = refl

pub nothing_begun : (node_step c (L 0) (leader_at (2 ^ 32 - 1)) (Asked (Timeout one)) NoFault).node ≡ leader_at (2 ^ 32 - 1)
nothing_begun = refl
