-- What a resource manager that is up answers, by looking back over a history, which has the newest first.
use Rattle.std.specs.Prelude.{◌≡◌, ◌⊎◌, ℕ, true, false, ◌&&◌, nat_lt, MatchBool, if◌then◌else◌, List, [], ◌∷◌}
use Rattle.xid.specs.Transactions.{is_participant}
use Rattle.xid.specs.declared.refusals.Refusal.TheVariants.{BadTx, NoSuch, NoMemory}
use Rattle.safety.specs.Vocabulary.{Request, Call, Recover, Timeout, Answer, Done, Xids, Stands, Refused, R, Event, Ask, Step}
use Rattle.protocol.specs.Effects.{Config, is_inside, view_standing}
use Rattle.protocol.specs.Nodes.{Fault, NoMemoryBefore, NoMemoryAt, Asked, accepts_request, down_answer, first_rows}
use Rattle.history.specs.Lines.{view_back}
use Rattle.history.specs.LookingBack.{answer_back}
use Rattle.history.specs.Writes.{table_back, names_prepared}
use Rattle.history.specs.Outages.{is_record_fault, is_outage, is_out}

-- a fault that isn't a want of memory
abbrev pub IsAmple : Fault → Type 0
IsAmple NoMemoryBefore = ⊥
IsAmple NoMemoryAt = ⊥
IsAmple fault = Unit {0}

-- the answer to a request: of a call on a branch as the branches and the table looked back at say; the names of the prepared branches;
-- where it stands in a transaction of the cluster that names it
abbrev pub answer_to : Config → ℕ → List Step → Request → Answer
answer_to config rm history (Call x action) = answer_back (table_back (first_rows config rm) rm history) rm history x action
answer_to config rm history Recover = Xids (names_prepared rm history)
answer_to config rm history (Request.View tx) =
    if is_inside config tx && is_participant tx rm then Stands (view_standing (view_back rm history tx)) else Refused BadTx
answer_to config rm history (Timeout tx) = if is_inside config tx then Done else Refused BadTx
answer_to config rm history request = Refused NoSuch

-- the answer of rm to a request that it takes: that of a node that is down, which it may be then, or that looked back at, which it
-- gives only where it isn't certainly down
abbrev pub IsAnswerOf : Config → ℕ → List Step → Request → Answer → Type 0
IsAnswerOf config rm history request answer =
    ((is_out is_outage rm history ≡ true) × (answer ≡ down_answer (Asked request)))
    ⊎ ((is_out is_record_fault rm history ≡ false) × (answer ≡ answer_to config rm history request))

-- an event is answered so after a history, where it asks a resource manager: memory is wanted, or it is refused where there is no such
-- manager or it takes no such request, or that is the manager's answer
abbrev pub IsAnswered : Config → List Step → Event → Answer → Type 0
IsAnswered config history (Ask (R rm) request) answer =
    (answer ≡ Refused NoMemory)
    ⊎ MatchBool (nat_lt rm config.managers && accepts_request (R rm) request) (IsAnswerOf config rm history request answer)
    (answer ≡ Refused NoSuch)
IsAnswered config history event answer = Unit {0}

-- each step of a history is answered so
abbrev pub AreAnswered : Config → List Step → Type 0
AreAnswered config [] = Unit {0}
AreAnswered config (step ∷ before) = IsAnswered config before step.event step.answer × AreAnswered config before
