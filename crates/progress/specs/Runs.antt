-- Runs in which some nodes take part and no others, and which no fault meets.
use Rattle.std.specs.Prelude.{◌≡◌, ℕ, Bool, true, false, ◌&&◌, ◌==◌, if◌then◌else◌, List, [], ◌∷◌, map, Option, Some, None}
use Rattle.std.specs.Option.{option_map, option_map_or}
use Rattle.xid.specs.Transactions.{TxParts, tx_eq, is_participant}
use Rattle.safety.specs.Vocabulary.{NodeId, A, L, R, Event, Ask, Deliver, Restart, Timeout}
use Rattle.protocol.specs.Effects.{Config}
use Rattle.protocol.specs.Nodes.{NoFault}
use Rattle.protocol.specs.Worlds.{World, Occurrence, datagram_at, world_step, world_after}

-- one leader and the acceptors of a quorum take part
abbrev pub leader_and_quorum : (leader : ℕ) (quorum : ℕ → Bool) → NodeId → Bool
leader_and_quorum l quorum (A a) = quorum a
leader_and_quorum l quorum (L other) = l == other
leader_and_quorum l quorum (R rm) = false

-- one leader and the participants of a transaction take part
abbrev pub leader_and_participants : (leader : ℕ) → TxParts → NodeId → Bool
leader_and_participants l tx (A a) = false
leader_and_participants l tx (L other) = l == other
leader_and_participants l tx (R rm) = is_participant tx rm

-- one leader, the acceptors of a quorum and the participants of a transaction take part
abbrev pub leader_quorum_and_participants : (leader : ℕ) (quorum : ℕ → Bool) → TxParts → NodeId → Bool
leader_quorum_and_participants l quorum tx (R rm) = is_participant tx rm
leader_quorum_and_participants l quorum tx other = leader_and_quorum l quorum other

-- where a restart, a timeout of the transaction or a delivery happens; no other event is used
abbrev pub happens_at : World → TxParts → Event → Option NodeId
happens_at world tx (Restart who) = Some who
happens_at world tx (Ask who (Timeout other)) = if tx_eq tx other then Some who else None
happens_at world tx (Deliver n) = option_map (λ d. d.receiver) (datagram_at world.net n)
happens_at world tx event = None

-- whether events are such ones, one after the other, each at a node that takes part
abbrev pub are_at : Config → (NodeId → Bool) → TxParts → World → List Event → Bool
are_at config takes_part tx world [] = true
are_at config takes_part tx world (event ∷ rest) =
    option_map_or takes_part (happens_at world tx event) false
    && are_at config takes_part tx (world_step config world event NoFault).world rest

-- events that no fault meets
abbrev pub without_fault : List Event → List Occurrence
without_fault events = map (λ event. record { event = event; fault = NoFault }) events

-- a world from which such events lead to one with a property
pub record Leads (config : Config) (takes_part : NodeId → Bool) (tx : TxParts) (P : World → Type 0) (world : World) : Type 0 where
  pub events : List Event
  pub at : are_at config takes_part tx world events ≡ true
  pub holds : P (world_after config world (without_fault events))
