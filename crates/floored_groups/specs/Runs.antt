-- Clusters whose nodes have floors and work in groups: a node handles inputs under its floor one after another, stores what it decided on
-- all, and then sends.
use Rattle.std.specs.Prelude.{◌≡◌, Bool, true, if◌then◌else◌, List, [], ◌∷◌, ◌++◌, map, Option, Some}
use Rattle.std.specs.List.{AllByRecursion, flat_map}
use Rattle.xid.specs.Places.{Place}
use Rattle.ballot.specs.Greatest.{IsIn}
use Rattle.protocol.specs.declared.answers.Answer.{Answer}
use Rattle.protocol.specs.declared.decisions.Outgoing.{Outgoing}
use Rattle.protocol.specs.declared.events.Event.{Event}
use Rattle.protocol.specs.declared.nodes.NodeId.{NodeId}
use Rattle.protocol.specs.Effects.{Config}
use Rattle.protocol.specs.Nodes.{NodeState, Input, Fault}
use Rattle.protocol.specs.Worlds.{World, Datagram, node_at, set_node, datagrams_of}
use Rattle.groups.specs.Runs.{Handed, CanBeHanded, IsSent, is_upkeep, Happening, Handled, Upkept}
use Rattle.floors.specs.Nodes.{floored_node_step, is_input_below}
use Rattle.floors.specs.Worlds.{FlooredWorld, FlooredEvent, Machine, floored_step}
use Rattle.floors.specs.Runs.{IsFlooredReachable, floored_opening, events_in_machine}

-- a node after the inputs of a group, one after another, each under its floor, which stays meanwhile
abbrev pub floored_node_after : Config → NodeId → Option Place → NodeState → List Handed → NodeState
floored_node_after config who floor node [] = node
floored_node_after config who floor node (first ∷ rest) =
    floored_node_after config who floor (floored_node_step config who floor node first.input first.fault).node rest

-- what it sends of them, in order
abbrev pub floored_sends_after : Config → NodeId → Option Place → NodeState → List Handed → List Outgoing
floored_sends_after config who floor node [] = []
floored_sends_after config who floor node (first ∷ rest) =
    let outcome = floored_node_step config who floor node first.input first.fault in
    outcome.sends ++ floored_sends_after config who floor outcome.node rest

-- the machine's world after a group at a node with a floor
abbrev pub floored_group_machine : Config → World → NodeId → Option Place → NodeState → List Handed → (is_stored : Bool) → World
floored_group_machine config world who floor node group is_stored =
    record (set_node config world who (floored_node_after config who floor node group)) {
      net = if is_stored
          then world.net ++ flat_map (datagrams_of config who) (floored_sends_after config who floor node group)
          else world.net;
    }

-- the world after a group at a node. Where its append was stopped, the group ends with the input at which it was, and nothing is sent. No
-- floor moves
abbrev pub floored_group_result : Config → FlooredWorld → NodeId → NodeState → List Handed → (is_stored : Bool) → FlooredWorld
floored_group_result config world who node group is_stored =
    record world { machine = floored_group_machine config world.machine who (world.floor who) node group is_stored }

-- whether an event hands no input to a node: a restart, a compaction, an armed tear, and all that moves floors
abbrev pub is_floored_upkeep : FlooredEvent → Bool
is_floored_upkeep (Machine event) = is_upkeep event
is_floored_upkeep event = true

-- the worlds that a cluster can come to whose nodes have floors and work in groups: the opening one, what any group at a node makes of one,
-- stored or stopped, of inputs that it can be handed, and what any other event makes of one. In their nets stands what was really sent
pub data IsFlooredReached (config : Config) : FlooredWorld → Type 0 where
  Opening : IsFlooredReached config (floored_opening config)
  Grouped : (world : FlooredWorld) (who : NodeId) (node : NodeState) (group : List Handed) (is_stored : Bool)
      → IsFlooredReached config world → node_at config world.machine who ≡ Some node
      → AllByRecursion (λ handed. CanBeHanded world.machine who handed.input) group
      → IsFlooredReached config (floored_group_result config world who node group is_stored)
  Kept : (world : FlooredWorld) (event : FlooredEvent) (fault : Fault) → IsFlooredReached config world
      → is_floored_upkeep event ≡ true → IsFlooredReached config (floored_step config world event fault).world

-- ---- what is the machine's of it

-- the inputs of a group that aren't below a floor
abbrev pub above_floor : Option Place → List Handed → List Handed
above_floor floor [] = []
above_floor floor (first ∷ rest) = if is_input_below floor first.input then above_floor floor rest else first ∷ above_floor floor rest

-- these inputs, with the answers that they get under the floor
abbrev pub handled_above : Config → NodeId → Option Place → NodeState → List Handed → List Happening
handled_above config who floor node [] = []
handled_above config who floor node (first ∷ rest) =
    let outcome = floored_node_step config who floor node first.input first.fault in
    let later = handled_above config who floor outcome.node rest in
    if is_input_below floor first.input then later else Handled who first.input outcome.answer ∷ later

-- events of the machine, each with what the event with floors is answered that it comes of
abbrev pub upkept_as : Answer → List Event → List Happening
upkept_as answer events = map (λ event. Upkept event answer) events

-- all that happened in the machine, in order: each input that isn't below its node's floor was handled, with its answer; where a floor rose
-- a record was made shorter, and a node that was replaced was restarted
abbrev pub machine_happened : (config : Config) (world : FlooredWorld) → IsFlooredReached config world → List Happening
machine_happened config _ Opening = []
machine_happened config _ (Grouped world who node group is_stored reach is all) =
    machine_happened config world reach ++ handled_above config who (world.floor who) node group
machine_happened config _ (Kept world event fault reach is) =
    machine_happened config world reach
    ++ upkept_as (floored_step config world event fault).answer (events_in_machine config world event)

-- ---- what happened

-- what happened in such a cluster: an input was handled under its node's floor, or another event was, each with its answer
pub data FlooredHappening : Type 0 where
  Took : (who : NodeId) (input : Input) (answer : Answer) → FlooredHappening
  Underwent : (event : FlooredEvent) (answer : Answer) → FlooredHappening

-- the inputs of a group, with their answers, in order; where its append was stopped nobody is told them
abbrev pub taken_in : Config → NodeId → Option Place → NodeState → List Handed → List FlooredHappening
taken_in config who floor node [] = []
taken_in config who floor node (first ∷ rest) =
    let outcome = floored_node_step config who floor node first.input first.fault in
    Took who first.input outcome.answer ∷ taken_in config who floor outcome.node rest

-- all that happened, in order
abbrev pub all_taken : (config : Config) (world : FlooredWorld) → IsFlooredReached config world → List FlooredHappening
all_taken config _ Opening = []
all_taken config _ (Grouped world who node group is_stored reach is all) =
    all_taken config world reach ++ taken_in config who (world.floor who) node group
all_taken config _ (Kept world event fault reach is) =
    all_taken config world reach ++ Underwent event (floored_step config world event fault).answer ∷ []

-- ---- one event at a time

-- a world with another net
abbrev pub with_net : FlooredWorld → List Datagram → FlooredWorld
with_net world net = record world { machine = record world.machine { net = net } }

-- events with floors, one at a time, lead to the same nodes, floors and notices; in their net stands all that was sent, and maybe more,
-- which a stopped group would have sent
pub record IsOneByOne (config : Config) (world : FlooredWorld) : Type 0 where
  pub net : List Datagram
  pub reached : IsFlooredReachable config (with_net world net)
  pub sent : (d : Datagram) → IsIn world.machine.net d → IsSent (with_net world net).machine d
