-- What a resource manager answers where each node has a floor, by looking back over the steps of a run, the newest first: what looking
-- back gives in a cluster without floors, but of a name below its floor. How far that was raised the steps say too.
use Rattle.std.specs.Prelude.{◌≡◌, ◌⊎◌, ℕ, Bool, true, false, ◌&&◌, ◌||◌, ◌==◌, nat_lt, MatchBool, if◌then◌else◌, List, [], ◌∷◌}
use Rattle.std.specs.Prelude.{Option, Some, None}
use Rattle.std.specs.List.{list_any}
use Rattle.xid.specs.Places.{Place}
use Rattle.xid.specs.declared.refusals.Refusal.TheVariants.{NoSuch, NoMemory}
use Rattle.safety.specs.Vocabulary.{Answer, Ask, Event, R, Raise, Refused, Request, Step}
use Rattle.protocol.specs.Effects.{Config}
use Rattle.protocol.specs.Nodes.{Asked, accepts_request, down_answer}
use Rattle.floors.specs.Nodes.{forgotten_answer, is_request_below}
use Rattle.floors.specs.Worlds.{is_done}
use Rattle.history.specs.Answers.{answer_to}
use Rattle.history.specs.Calls.{is_restart}
use Rattle.history.specs.Outages.{is_event_at, is_outage, is_record_fault}

-- ---- floors

-- the place to which an event raised the floor of rm, where it was answered so
abbrev pub raised_by : (Answer → Bool) → ℕ → Event → Answer → Option Place
raised_by test rm (Raise other place) answer = if other == rm && test answer then Some place else None
raised_by test rm event answer = None

-- whether an answer is that of a floor that rose, or wasn't lower; or its record failed as it was to rise, and it may have risen
abbrev pub may_be_raised : Answer → Bool
may_be_raised answer = is_done answer || is_record_fault answer

-- whether the name of a request is below a place to which some step raised the floor of rm
abbrev pub is_over : (Answer → Bool) → ℕ → List Step → Request → Bool
is_over test rm history request = list_any (λ step. is_request_below (raised_by test rm step.event step.answer) request) history

-- ---- outages

-- whether an event is one at rm; that its floor is to rise is one
abbrev pub is_event_here : ℕ → List Step → Event → Bool
is_event_here rm history (Raise other place) = other == rm
is_event_here rm history event = is_event_at rm history event

-- whether an event at rm was answered so since it was last restarted
abbrev pub is_down : (Answer → Bool) → ℕ → List Step → Bool
is_down test rm [] = false
is_down test rm (step ∷ history) =
    if is_restart rm step.event step.answer then false
    else (is_event_here rm history step.event && test step.answer) || is_down test rm history

-- ---- answers

-- the answer of rm to a request that it takes: that of a node that is down, which it may be then; or, where it isn't certainly down, that
-- to what is over, where its name may be below the floor, or that looked back at, where it isn't certainly
abbrev pub IsAnswerHere : Config → ℕ → List Step → Request → Answer → Type 0
IsAnswerHere config rm history request answer =
    ((is_down is_outage rm history ≡ true) × (answer ≡ down_answer (Asked request)))
    ⊎ ((is_down is_record_fault rm history ≡ false) × (is_over may_be_raised rm history request ≡ true)
    × (answer ≡ forgotten_answer (Asked request)))
    ⊎ ((is_down is_record_fault rm history ≡ false) × (is_over is_done rm history request ≡ false)
    × (answer ≡ answer_to config rm history request))

-- an event is answered so after a history, where it asks a resource manager: memory is wanted, or it is refused where there is no such
-- manager or it takes no such request, or that is the manager's answer
abbrev pub IsAnsweredHere : Config → List Step → Event → Answer → Type 0
IsAnsweredHere config history (Ask (R rm) request) answer =
    (answer ≡ Refused NoMemory)
    ⊎ MatchBool (nat_lt rm config.managers && accepts_request (R rm) request) (IsAnswerHere config rm history request answer)
    (answer ≡ Refused NoSuch)
IsAnsweredHere config history event answer = Unit {0}

-- each step of a history is answered so
abbrev pub AreAnsweredHere : Config → List Step → Type 0
AreAnsweredHere config [] = Unit {0}
AreAnsweredHere config (step ∷ before) = IsAnsweredHere config before step.event step.answer × AreAnsweredHere config before
