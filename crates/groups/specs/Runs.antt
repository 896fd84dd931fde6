-- Clusters whose nodes work in groups: a node handles inputs one after another, stores what it decided on all, and then sends.
use Rattle.std.specs.Prelude.{◌≡◌, ℕ, Bool, true, false, if◌then◌else◌, List, [], ◌∷◌, ◌++◌, Some}
use Rattle.std.specs.List.{AllByRecursion, flat_map}
use Rattle.ballot.specs.Greatest.{IsIn}
use Rattle.protocol.specs.declared.answers.Answer.{Answer}
use Rattle.protocol.specs.declared.decisions.Outgoing.{Outgoing}
use Rattle.protocol.specs.declared.events.Event.{Event}
use Rattle.protocol.specs.declared.events.Event.TheVariants.{Ask, Deliver, Noise, Restart, Compact, Tear}
use Rattle.protocol.specs.declared.nodes.NodeId.{NodeId}
use Rattle.protocol.specs.Effects.{Config}
use Rattle.protocol.specs.Nodes.{NodeState, Input, Asked, Received, ReceivedNoise, Fault, node_step}
use Rattle.protocol.specs.Worlds.{World, Datagram, Occurrence, opening, node_at, set_node, datagrams_of, datagram_at, world_step}
use Rattle.protocol.specs.Worlds.{world_after}

-- an input, and the fault that meets it
pub record Handed : Type 0 where
  pub input : Input
  pub fault : Fault

-- a node after the inputs of a group, one after another
abbrev pub node_after : Config → NodeId → NodeState → List Handed → NodeState
node_after config who node [] = node
node_after config who node (first ∷ rest) = node_after config who (node_step config who node first.input first.fault).node rest

-- what it sends of them, in order
abbrev pub sends_after : Config → NodeId → NodeState → List Handed → List Outgoing
sends_after config who node [] = []
sends_after config who node (first ∷ rest) =
    let outcome = node_step config who node first.input first.fault in outcome.sends ++ sends_after config who outcome.node rest

-- what a node can be handed: any request, bytes that spell no message, and the message of a datagram that was sent to it
abbrev pub CanBeHanded : World → NodeId → Input → Type 0
CanBeHanded world who (Asked request) = Unit {0}
CanBeHanded world who (Received message) = (d : Datagram) × IsIn world.net d × (d.receiver ≡ who) × (d.message ≡ message)
CanBeHanded world who ReceivedNoise = Unit {0}

-- the world after a group at a node. Where its append was stopped, the group ends with the input at which it was, and nothing is sent
abbrev pub group_result : Config → World → NodeId → NodeState → List Handed → (is_stored : Bool) → World
group_result config world who node group is_stored = record (set_node config world who (node_after config who node group)) {
  net = if is_stored then world.net ++ flat_map (datagrams_of config who) (sends_after config who node group) else world.net;
}

-- whether an event is none of an input: a restart, a compaction, or an armed tear
abbrev pub is_upkeep : Event → Bool
is_upkeep (Restart who) = true
is_upkeep (Compact who) = true
is_upkeep (Tear who n) = true
is_upkeep event = false

-- the worlds that a cluster can come to whose nodes work in groups: the opening one, what any group at a node makes of one, stored or
-- stopped, of inputs that it can be handed, and what any other event makes of one. In their nets stands what was really sent
pub data IsReached (config : Config) : World → Type 0 where
  Opening : IsReached config (opening config)
  Grouped : (world : World) (who : NodeId) (node : NodeState) (group : List Handed) (is_stored : Bool) → IsReached config world
      → node_at config world who ≡ Some node → AllByRecursion (λ handed. CanBeHanded world who handed.input) group
      → IsReached config (group_result config world who node group is_stored)
  Kept : (world : World) (event : Event) (fault : Fault) → IsReached config world → is_upkeep event ≡ true
      → IsReached config (world_step config world event fault).world

-- a datagram was sent in a world to the same node, with the same message
pub record IsSent (world : World) (d : Datagram) : Type 0 where
  pub sent : Datagram
  pub there : IsIn world.net sent
  pub receiver_is : sent.receiver ≡ d.receiver
  pub message_is : sent.message ≡ d.message

-- what happened in a cluster whose nodes work in groups: an input was handled, or another event was, each with its answer
pub data Happening : Type 0 where
  Handled : (who : NodeId) (input : Input) (answer : Answer) → Happening
  Upkept : (event : Event) (answer : Answer) → Happening

-- the inputs of a group, with their answers, in order; where its append was stopped nobody is told them
abbrev pub handled_in : Config → NodeId → NodeState → List Handed → List Happening
handled_in config who node [] = []
handled_in config who node (first ∷ rest) =
    let outcome = node_step config who node first.input first.fault in
    Handled who first.input outcome.answer ∷ handled_in config who outcome.node rest

-- all that happened, in order
abbrev pub all_happened : (config : Config) (world : World) → IsReached config world → List Happening
all_happened config _ Opening = []
all_happened config _ (Grouped world who node group is_stored reach is all) =
    all_happened config world reach ++ handled_in config who node group
all_happened config _ (Kept world event fault reach is) =
    all_happened config world reach ++ Upkept event (world_step config world event fault).answer ∷ []

-- an event hands a node an input: a request, a datagram with that message, bytes that spell none
abbrev pub Hands : World → Event → NodeId → Input → Type 0
Hands world event who (Asked request) = event ≡ Ask who request
Hands world event who (Received message) =
    (n : ℕ) × (d : Datagram) × (event ≡ Deliver n) × (datagram_at world.net n ≡ Some d) × (d.receiver ≡ who) × (d.message ≡ message)
Hands world event who ReceivedNoise = (bytes : List ℕ) × (event ≡ Noise who bytes)

-- an event in a world of the machine, with its answer, is what happened
abbrev pub IsSame : World → Event → Answer → Happening → Type 0
IsSame world event answer (Handled who input told) = Hands world event who input × (answer ≡ told)
IsSame world event answer (Upkept kept told) = (event ≡ kept) × (answer ≡ told)

-- events of the machine, one after another from a world, with their answers, are what happened
abbrev pub AreSame : Config → World → List Occurrence → List Happening → Type 0
AreSame config world [] [] = Unit {0}
AreSame config world (first ∷ rest) (happened ∷ later) =
    let result = world_step config world first.event first.fault in
    IsSame world first.event result.answer happened × AreSame config result.world rest later
AreSame config world events happened = ⊥

-- events of the machine, which are what happened, lead to the same nodes, with all that was sent; what else stands there is never delivered
pub record IsMachines (config : Config) (world : World) (happened : List Happening) : Type 0 where
  pub events : List Occurrence
  pub same : AreSame config (opening config) events happened
  pub nodes_are : (world_after config (opening config) events).nodes ≡ world.nodes
  pub sent : (d : Datagram) → IsIn world.net d → IsSent (world_after config (opening config) events) d
