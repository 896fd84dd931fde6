-- The worlds with floors that a cluster can come to, the events of the machine that lead there too, and runs that lead to something.
use Rattle.std.specs.Prelude.{◌≡◌, ◌⊎◌, ◌==◌, ℕ, Bool, true, false, ◌&&◌, not, if◌then◌else◌, List, [], ◌∷◌, ◌++◌, map, slice_get}
use Rattle.std.specs.Prelude.{Option, Some, None, IsTrue}
use Rattle.std.specs.Option.{option_map_or, option_and_then}
use Rattle.xid.specs.Transactions.{TxParts, tx_eq, is_participant}
use Rattle.wire.specs.Messages.{message_tx}
use Rattle.protocol.specs.declared.requests.Request.TheVariants as requests
use Rattle.protocol.specs.declared.states.Standing.TheVariants as standings
use Rattle.safety.specs.Vocabulary.{NodeId, A, L, R, Answer, Stands, Event, Ask, Deliver, Lose, Restart, Compact, Timeout, View}
use Rattle.safety.specs.Runs.{views_in}
use Rattle.protocol.specs.Effects.{Config}
use Rattle.protocol.specs.Nodes.{Input, Asked, Received, Fault, NoFault}
use Rattle.protocol.specs.Worlds.{World, Datagram, Occurrence, opening, datagram_at, node_at}
use Rattle.xid.specs.Places.{Place, is_lower, is_below}
use Rattle.floors.specs.Nodes.{is_passed_over, is_free_below, may_replace}
use Rattle.floors.specs.Worlds.{FlooredWorld, FlooredEvent, Notice, Machine, Raise, Hear, Replace, floored_step, is_manager, least_told}
use Rattle.floors.specs.Worlds.{told_with, nothing_told, step_with_floors, with_floors}

-- ---- worlds

-- at first there is no floor
abbrev pub floored_opening : Config → FlooredWorld
floored_opening config = record {
  machine = opening config;
  floor = λ who. None;
  told = λ who. nothing_told;
  is_replaced = λ who. false;
  notices = [];
}

-- the opening one, and what any event, with any fault, makes of one
pub data IsFlooredReachable (config : Config) : FlooredWorld → Type 0 where
  Opening : IsFlooredReachable config (floored_opening config)
  After : (world : FlooredWorld) (event : FlooredEvent) (fault : Fault) → IsFlooredReachable config world
      → IsFlooredReachable config (floored_step config world event fault).world

-- ---- the machine's events

-- whether a node that stands in a world does nothing on an input since it is below its floor
abbrev pub passes_over : Config → FlooredWorld → NodeId → Input → Bool
passes_over config world who input =
    option_map_or (λ node. is_passed_over who (world.floor who) node input) (node_at config world.machine who) false

-- whether a datagram is passed over by its receiver
abbrev pub is_lost : Config → FlooredWorld → Option Datagram → Bool
is_lost config world datagram = option_map_or (λ d. passes_over config world d.receiver (Received d.message)) datagram false

-- what the machine does on an event of the machine: a request that is passed over isn't made, such a datagram is lost
abbrev pub machine_events : Config → FlooredWorld → Event → List Event
machine_events config world (Ask who request) = if passes_over config world who (Asked request) then [] else Ask who request ∷ []
machine_events config world (Deliver n) = (if is_lost config world (datagram_at world.machine.net n) then Lose n else Deliver n) ∷ []
machine_events config world event = event ∷ []

-- whether a resource manager's floor rises where it is asked to raise it
abbrev pub does_raise : Config → FlooredWorld → NodeId → Place → Bool
does_raise config world who place =
    is_manager who
    && option_map_or (λ node. node.up && is_lower (world.floor who) (Some place) && is_free_below place node)
    (node_at config world.machine who) false

-- whether another's does where it is told of one
abbrev pub does_rise : Config → FlooredWorld → Option Notice → Bool
does_rise config world None = false
does_rise config world (Some notice) =
    let who = notice.receiver in
    not (is_manager who)
    && option_map_or (λ node. node.up && is_lower (world.floor who) (least_told config (told_with (world.told who) notice)))
    (node_at config world.machine who) false

-- whether a node is replaced
abbrev pub is_put_in : Config → FlooredWorld → NodeId → Place → Bool
is_put_in config world who place =
    not (is_manager who) && option_map_or (λ node. may_replace (world.floor who) node place) (node_at config world.machine who) false

-- the node that a notice is for
abbrev pub receiver_of : Option Notice → NodeId
receiver_of None = R 0
receiver_of (Some notice) = notice.receiver

-- what the machine does meanwhile: where a floor rises a node makes its record shorter, and one that is replaced is restarted
abbrev pub events_in_machine : Config → FlooredWorld → FlooredEvent → List Event
events_in_machine config world (Machine event) = machine_events config world event
events_in_machine config world (Raise who place) = if does_raise config world who place then Compact who ∷ [] else []
events_in_machine config world (Hear n) =
    let notice = slice_get world.notices n in
    if does_rise config world notice then Compact (receiver_of notice) ∷ [] else []
events_in_machine config world (Replace who place) = if is_put_in config world who place then Restart who ∷ [] else []

-- events that a fault meets
abbrev pub with_fault : Fault → List Event → List Occurrence
with_fault fault events = map (λ event. record { event = event; fault = fault }) events

-- the events of the machine that come of events with floors from a world on
abbrev pub events_from : Config → FlooredWorld → List Occurrence → List Occurrence
events_from config world [] = []
events_from config world (first ∷ rest) =
    with_fault first.fault (events_in_machine config world (with_floors first.event))
    ++ events_from config (step_with_floors config world first.event first.fault).world rest

-- the events of the machine that came of a run with floors, one after another
abbrev pub all_events : (config : Config) (world : FlooredWorld) → IsFlooredReachable config world → List Occurrence
all_events config _ Opening = []
all_events config _ (After world event fault reach) =
    all_events config world reach ++ with_fault fault (events_in_machine config world event)

-- ---- runs

-- where a restart, a timeout of the transaction or a delivery of a message on it happens; no other event is used
abbrev pub happens_on : World → TxParts → Event → Option NodeId
happens_on world tx (Restart who) = Some who
happens_on world tx (Ask who (Timeout other)) = if tx_eq tx other then Some who else None
happens_on world tx (Deliver n) =
    option_and_then (λ d. if tx_eq tx (message_tx d.message) then Some d.receiver else None) (datagram_at world.net n)
happens_on world tx event = None

-- the world after an event of the machine that no fault meets
abbrev pub floored_next : Config → FlooredWorld → Event → FlooredWorld
floored_next config world event = (floored_step config world (Machine event) NoFault).world

-- the world after several such events
abbrev pub floored_after : Config → FlooredWorld → List Event → FlooredWorld
floored_after config world [] = world
floored_after config world (event ∷ rest) = floored_after config (floored_next config world event) rest

-- whether events are such ones, one after the other, each at a node that takes part
abbrev pub are_on : Config → (NodeId → Bool) → TxParts → FlooredWorld → List Event → Bool
are_on config takes_part tx world [] = true
are_on config takes_part tx world (event ∷ rest) =
    option_map_or takes_part (happens_on world.machine tx event) false
    && are_on config takes_part tx (floored_next config world event) rest

-- a world from which such events lead to one with a property; they move no floor
pub record LeadsFloored (config : Config) (takes_part : NodeId → Bool) (tx : TxParts) (P : FlooredWorld → Type 0) (world : FlooredWorld)
    : Type 0 where
  pub events : List Event
  pub at : are_on config takes_part tx world events ≡ true
  pub holds : P (floored_after config world events)

-- what a leader answers a client that asks where a transaction stands
abbrev pub floored_status : Config → FlooredWorld → ℕ → TxParts → Answer
floored_status config world l tx = (floored_step config world (Machine (Ask (L l) (requests.Status tx))) NoFault).answer

-- a leader has the outcome: it answers committed or aborted
abbrev pub HasFlooredOutcome : Config → ℕ → TxParts → FlooredWorld → Type 0
HasFlooredOutcome config l tx world =
    (floored_status config world l tx ≡ Stands standings.Committed) ⊎ (floored_status config world l tx ≡ Stands standings.Aborted)

-- every participant's view of a transaction is this one, where its floor isn't above it
abbrev pub HaveEndedAbove : Config → TxParts → View → FlooredWorld → Type 0
HaveEndedAbove config tx outcome world =
    (r : ℕ) → IsTrue (is_participant tx r) → is_below (world.floor (R r)) tx ≡ false → views_in config world.machine tx r ≡ outcome

-- a transaction is at or above the floors of a leader and of the acceptors of a quorum
pub record IsAtHand (world : FlooredWorld) (l : ℕ) (quorum : ℕ → Bool) (tx : TxParts) : Type 0 where
  pub leader : is_below (world.floor (L l)) tx ≡ false
  pub acceptors : (a : ℕ) → IsTrue (quorum a) → is_below (world.floor (A a)) tx ≡ false

-- one leader and the participants of a transaction whose floors aren't above it take part
abbrev pub leader_and_unforgetting : FlooredWorld → (leader : ℕ) → TxParts → NodeId → Bool
leader_and_unforgetting world l tx (A a) = false
leader_and_unforgetting world l tx (L other) = l == other
leader_and_unforgetting world l tx (R rm) = is_participant tx rm && not (is_below (world.floor (R rm)) tx)

-- and the acceptors of a quorum beside them
abbrev pub leader_quorum_and_unforgetting : FlooredWorld → (leader : ℕ) → (quorum : ℕ → Bool) → TxParts → NodeId → Bool
leader_quorum_and_unforgetting world l quorum tx (A a) = quorum a
leader_quorum_and_unforgetting world l quorum tx other = leader_and_unforgetting world l tx other
