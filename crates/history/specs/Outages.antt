-- Which datagrams were sent, and which resource managers are down, by looking back over a history, which has the newest first.
use Rattle.std.specs.Prelude.{ℕ, Bool, true, false, ◌&&◌, ◌||◌, ◌==◌, if◌then◌else◌, List, [], ◌∷◌, reverse, find, Option}
use Rattle.std.specs.List.{flat_map}
use Rattle.std.specs.Option.{option_map_or}
use Rattle.xid.specs.declared.refusals.Refusal.TheVariants.{RecordFault, NoMemory}
use Rattle.safety.specs.Vocabulary.{R, NodeId, Event, Ask, Deliver, Cut, Noise, Restart, Compact, Answer, Refused, Sent, Step}
use Rattle.history.specs.Calls.{is_restart}

-- the datagrams that steps sent, in the order of the steps
abbrev pub sent_lines : List Step → List Sent
sent_lines steps = flat_map (λ step. step.sent) steps

-- the datagram of a number
abbrev pub sent_back : List Step → ℕ → Option Sent
sent_back history n = find (λ sent. sent.number == n) (sent_lines (reverse history))

-- whether a node is resource manager rm
abbrev pub is_manager : ℕ → NodeId → Bool
is_manager rm (R other) = other == rm
is_manager rm who = false

-- whether the datagram of a number is for rm
abbrev pub is_sent_to : ℕ → List Step → ℕ → Bool
is_sent_to rm history n = option_map_or (λ sent. is_manager rm sent.receiver) (sent_back history n) false

-- whether an event is one at rm
abbrev pub is_event_at : ℕ → List Step → Event → Bool
is_event_at rm history (Ask who request) = is_manager rm who
is_event_at rm history (Deliver n) = is_sent_to rm history n
is_event_at rm history (Cut n k) = is_sent_to rm history n
is_event_at rm history (Noise who bytes) = is_manager rm who
is_event_at rm history (Restart who) = is_manager rm who
is_event_at rm history (Compact who) = is_manager rm who
is_event_at rm history event = false

-- whether an answer is that of a record that failed
abbrev pub is_record_fault : Answer → Bool
is_record_fault (Refused RecordFault) = true
is_record_fault answer = false

-- whether it is that of a node that goes down; or memory was wanted before a node was reached
abbrev pub is_outage : Answer → Bool
is_outage (Refused NoMemory) = true
is_outage answer = is_record_fault answer

-- whether an event at rm was answered so since it was last restarted
abbrev pub is_out : (Answer → Bool) → ℕ → List Step → Bool
is_out test rm [] = false
is_out test rm (step ∷ history) =
    if is_restart rm step.event step.answer then false
    else (is_event_at rm history step.event && test step.answer) || is_out test rm history
