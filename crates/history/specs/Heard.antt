-- What came to a leader since its last restart, by looking back over a history, which has the newest first.
use Rattle.std.specs.Prelude.{ℕ, Bool, false, ◌==◌, if◌then◌else◌, List, [], ◌∷◌, ◌++◌}
use Rattle.std.specs.Option.{option_map_or}
use Rattle.wire.specs.declared.message.Kind.{Kind}
use Rattle.safety.specs.Vocabulary.{L, NodeId, Event, Deliver, Restart, Answer, Done, Step}
use Rattle.protocol.specs.PaperItems.{unbundled}
use Rattle.history.specs.Outages.{sent_back}

-- whether a node is leader l
abbrev pub is_leader : ℕ → NodeId → Bool
is_leader l (L other) = other == l
is_leader l who = false

-- whether an event is a restart of leader l, and was done
abbrev pub is_leader_restart : ℕ → Event → Answer → Bool
is_leader_restart l (Restart who) Done = is_leader l who
is_leader_restart l event answer = false

-- the paper's messages of the datagram of a delivery to leader l, however that is answered
abbrev pub came_at : ℕ → List Step → Event → List Kind
came_at l history (Deliver n) =
    option_map_or (λ sent. if is_leader l sent.receiver then unbundled sent.message else []) (sent_back history n) []
came_at l history event = []

-- those that came to it since it was last restarted
abbrev pub came_since : ℕ → List Step → List Kind
came_since l [] = []
came_since l (step ∷ history) =
    if is_leader_restart l step.event step.answer then [] else came_at l history step.event ++ came_since l history
