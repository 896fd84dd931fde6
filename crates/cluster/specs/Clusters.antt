-- A cluster: which world with floors it stands for, and what an event makes of both.
use Rattle.std.specs.Prelude.{◌≡◌, ◌≢◌, ℕ, zero, suc, ◌+◌, ◌-◌, ◌^◌, ◌<◌, Bool, true, false, nat_lt, if◌then◌else◌, List, [], ◌∷◌, ◌++◌}
use Rattle.std.specs.Prelude.{length, drop, slice_get, slice_index_or, Option, Some, None, Ok, Err}
use Rattle.std.specs.List.{AllZip}
use Rattle.std.specs.Option.{option_map, option_map_or, option_and_then}
use Rattle.xid.specs.Places.{Place}
use Rattle.xid.specs.declared.refusals.Refusal.{Refusal}
use Rattle.stable_record.specs.declared.fact.FactKind.{FactKind as Fact}
use Rattle.stable_record.specs.Held.{Held, armed_with}
use Rattle.wire.specs.Grammar.{spelling}
use Rattle.wire.specs.Decoding.{message_at, spells_message}
use Rattle.protocol.specs.declared.events.Event.{Event}
use Rattle.protocol.specs.declared.events.Sent.{Sent}
use Rattle.protocol.specs.declared.events.Event.TheVariants.{Ask, Deliver, Cut, Noise, Tear, Restart, Compact, Raise, Hear, Replace}
use Rattle.protocol.specs.declared.events.Step.{Step}
use Rattle.protocol.specs.declared.events.Told.{Told}
use Rattle.protocol.specs.declared.nodes.NodeId.{NodeId}
use Rattle.protocol.specs.declared.nodes.NodeId.TheVariants.{R}
use Rattle.protocol.specs.Effects.{Config}
use Rattle.protocol.specs.Nodes.{NodeState, Input, Asked, Received, ReceivedNoise, Fault, NoFault, NoMemoryBefore, NoMemoryAt, RecordFails}
use Rattle.protocol.specs.Worlds.{World, Datagram, place, node_at, datagram_at}
use Rattle.node_core.specs.declared.config.Sizes.{Sizes}
use Rattle.node_core.specs.Nodes.{AreSizes, Befalls}
use Rattle.node_core.specs.Compacting.{BefallsCompact, IsRecompacted}
use Rattle.node_core.specs.Opening.{BefallsRestart}
use Rattle.floors.specs.Worlds.{FlooredWorld, FlooredResult, Notice, at_floored_node, floored_step_of, step_with_floors, told_from}
use Rattle.floors.specs.Runs.{IsFlooredReachable}
use Rattle.floored.specs.Nodes.{BefallsReplace, BefallsRise, FlooredParts, FlooredStands, floored_fact}
use Rattle.floored.specs.Told.{told_at}
use Rattle.network.specs.Networks.{DatagramParts, NetworkParts, StandsFor}
use Rattle.cluster.specs.declared.handing.Answered.{Answered}

-- what was told of floors: to each node, of each resource manager's; every notice; and for how many more there is room
pub record NoticesParts : Type 0 where
  pub told : List (List (Option Place))
  pub all : List Notice
  pub spare : ℕ

-- how many notices have numbers
abbrev pub most_notices : ℕ
most_notices = 2 ^ 32 - 1

-- what contracts see of a cluster: its sizes and kind, its nodes, its datagrams, and what was told of floors
pub record ClusterParts : Type 0 where
  pub sizes : Sizes
  pub nodes : List FlooredParts
  pub network : NetworkParts
  pub notices : NoticesParts

-- a cluster of these parts
abbrev pub cluster_of : Sizes → List FlooredParts → NetworkParts → NoticesParts → ClusterParts
cluster_of sizes nodes network notices = record { sizes = sizes; nodes = nodes; network = network; notices = notices }

-- the nodes stand in the order of their names, each with its floor, and each for the one that the machine has there
pub record AreNodes (config : Config) (nodes : List FlooredParts) (floor : NodeId → Option Place) (states : List NodeState) : Type 0 where
  pub count : length nodes ≡ config.acceptors + config.leaders + config.managers
  pub named : (who : NodeId) (at : ℕ) (d : FlooredParts) → place config who ≡ Some at → (slice_index_or nodes at d).node.who ≡ who
  pub floors_are : (who : NodeId) (at : ℕ) (d : FlooredParts) → place config who ≡ Some at
      → (slice_index_or nodes at d).floor ≡ floor who
  pub stand : AllZip (FlooredStands config) nodes states

-- each node was told as much of each resource manager's floor
pub record AreTold (config : Config) (told : List (List (Option Place))) (world : NodeId → ℕ → Option Place) : Type 0 where
  pub count : length told ≡ config.acceptors + config.leaders + config.managers
  pub each_count : (at : ℕ) (d : List (Option Place)) → at < length told → length (slice_index_or told at d) ≡ config.managers
  pub told_are : (who : NodeId) (at rm : ℕ) (d : List (Option Place)) → place config who ≡ Some at → rm < config.managers
      → told_at (slice_index_or told at d) rm ≡ world who rm

-- a cluster stands for a world with floors
pub record ClusterStands (config : Config) (cluster : ClusterParts) (world : FlooredWorld) : Type 0 where
  pub sizes_are : AreSizes config cluster.sizes
  pub nodes_are : AreNodes config cluster.nodes world.floor world.machine.nodes
  pub net_is : StandsFor cluster.network world.machine.net
  pub told_are : AreTold config cluster.notices.told world.told
  pub notices_are : cluster.notices.all ≡ world.notices

-- each cluster stands for a world that events have led to
pub record IsSound (cluster : ClusterParts) : Type 0 where
  pub config : Config
  pub world : FlooredWorld
  pub reached : IsFlooredReachable config world
  pub is : ClusterStands config cluster world

-- the first k bytes of a datagram, if they are fewer than all
abbrev pub handed_cut : ℕ → Datagram → Option (NodeId × Input)
handed_cut k d = if nat_lt k (length (spelling d.message)) then Some (d.receiver, ReceivedNoise) else None

-- the node that an event hands something, and what it is handed, if there is such a node
abbrev pub handed : World → Event → Option (NodeId × Input)
handed world (Ask who request) = Some (who, Asked request)
handed world (Deliver n) = option_map (λ d. (d.receiver, Received d.message)) (datagram_at world.net n)
handed world (Cut n k) = option_and_then (handed_cut k) (datagram_at world.net n)
handed world (Noise who bytes) = if spells_message bytes then None else Some (who, ReceivedNoise)
handed world event = None

-- the notice of a number, from 1
abbrev pub notice_at : List Notice → ℕ → Option Notice
notice_at notices zero = None
notice_at notices (suc n) = slice_get notices n

-- the name that an event reaches: to hand something on, to arm a tear, to restart, to compact, to have a floor rise or to be replaced
abbrev pub name_reached : FlooredWorld → Event → Option NodeId
name_reached world (Tear who n) = Some who
name_reached world (Restart who) = Some who
name_reached world (Compact who) = Some who
name_reached world (Raise rm floor) = Some (R rm)
name_reached world (Hear n) = option_map (λ notice. notice.receiver) (notice_at world.notices n)
name_reached world (Replace who floor) = Some who
name_reached world event = option_map (λ (on : NodeId × Input). on.0) (handed world.machine event)

-- the place of the node that an event reaches, if there is one
abbrev pub place_reached : Config → FlooredWorld → Event → Option ℕ
place_reached config world event = option_and_then (place config) (name_reached world event)

-- the nodes in all places but one are as they were, their records and counts too; where there is no such place, all are
abbrev pub StayBut : {X : Type 0} → Option ℕ → (old new : List X) → Type 0
StayBut None old new = new ≡ old
StayBut {X} (Some at) old new = (other : ℕ) (d : X) → other ≢ at → slice_index_or new other d ≡ slice_index_or old other d

-- something of a node that a world has is so in its place; where the world has none, there was no fault
abbrev pub BefallsThere : Config → NodeId → Option NodeState → (NodeState → ℕ → FlooredParts → Type 0) → Fault → Type 0
BefallsThere config who None So fault = fault ≡ NoFault
BefallsThere config who (Some m) So fault = (at : ℕ) (d : FlooredParts) → place config who ≡ Some at → So m at d

-- a fault is true to what befell the node that was reached
abbrev pub BefallsAt : Config → FlooredWorld → (old new : List FlooredParts) → NodeId × Input → Option NodeState → Fault → Type 0
BefallsAt config world old new reached there fault = BefallsThere config reached.0 there (λ m at d.
    Befalls (floored_fact config reached.0 (world.floor reached.0) m reached.1) (slice_index_or old at d).node.held
    (slice_index_or new at d).node.held fault) fault

-- a fault is true to what befell the node that an event was to reach; where it was to reach none, there was no fault
abbrev pub BefallsReached : Config → FlooredWorld → (old new : List FlooredParts) → Option (NodeId × Input) → Fault → Type 0
BefallsReached config world old new None fault = fault ≡ NoFault
BefallsReached config world old new (Some reached) fault =
    BefallsAt config world old new reached (node_at config world.machine reached.0) fault

-- a fault is true to what befell the record of a node that was restarted
abbrev pub BefallsRestarted : Config → (old new : List FlooredParts) → NodeId → Option NodeState → Fault → Type 0
BefallsRestarted config old new who there fault = BefallsThere config who there (λ m at d.
    BefallsRestart (slice_index_or old at d).node.held (slice_index_or new at d).node.held fault) fault

-- a fault that only a node that is up can meet
abbrev pub IsMetIf : (up : Bool) → Type 0 → Fault → Type 0
IsMetIf true Befallen fault = Befallen
IsMetIf false Befallen fault = fault ≡ NoFault

-- what a compaction leaves of the record of a node with these facts: the frames of the shorter one; where the record failed, those or what
-- stood there
abbrev pub LeavesShorter : Config → NodeId → List Fact → (old new : Held) → Fault → Type 0
LeavesShorter config who facts old new NoFault = IsRecompacted config who facts old new (Ok tt)
LeavesShorter config who facts old new NoMemoryBefore = ⊥
LeavesShorter config who facts old new NoMemoryAt = IsRecompacted config who facts old new (Err Refusal.NoMemory)
LeavesShorter config who facts old new (RecordFails whole) = IsRecompacted config who facts old new (Err Refusal.RecordFault)

-- a fault is true to what befell the record of a node that was compacted: it is made shorter of the facts that the node has not forgotten
abbrev pub BefallsShorter : Config → NodeId → NodeState → (old new : FlooredParts) → Fault → Type 0
BefallsShorter config who m old new fault =
    BefallsCompact old.node.held new.node.held fault
    × ((stood : FlooredStands config old m) → LeavesShorter stood.from who stood.few.facts old.node.held new.node.held fault)

-- a fault is true to what befell the record of a node that was compacted; where it is down, or isn't there, there was no fault
abbrev pub BefallsCompacted : Config → (old new : List FlooredParts) → NodeId → Option NodeState → Fault → Type 0
BefallsCompacted config old new who None fault = fault ≡ NoFault
BefallsCompacted config old new who (Some m) fault =
    IsMetIf m.up ((at : ℕ) (d : FlooredParts) → place config who ≡ Some at
    → BefallsShorter config who m (slice_index_or old at d) (slice_index_or new at d) fault) fault

-- a tear of so many bytes is armed on the record of a node that there is, and nothing else of the node changes
abbrev pub IsArmed : Config → (old new : List FlooredParts) → NodeId → ℕ → Option NodeState → Type 0
IsArmed config old new who n None = Unit {0}
IsArmed config old new who n (Some m) =
    (at : ℕ) (d : FlooredParts) → place config who ≡ Some at
    → (slice_index_or new at d).node
    ≡ record (slice_index_or old at d).node { held = armed_with (Some n) (slice_index_or old at d).node.held }

-- a fault is true to what befell the record of a node whose floor was to rise
abbrev pub BefallsRaised : Config → (old new : List FlooredParts) → NodeId → Option NodeState → Fault → Type 0
BefallsRaised config old new who there fault = BefallsThere config who there (λ m at d.
    BefallsRise (slice_index_or old at d).node.held (slice_index_or new at d).node.held fault) fault

-- a fault is true to what befell the record of a node for which a blank one was to stand in
abbrev pub BefallsReplaced : Config → (old new : List FlooredParts) → NodeId → Option NodeState → Fault → Type 0
BefallsReplaced config old new who there fault = BefallsThere config who there (λ m at d.
    BefallsReplace (slice_index_or old at d).node.held (slice_index_or new at d).node.held fault) fault

-- a fault is true to what befell the record of a node that was handed a notice; where there is no such notice, there was no fault
abbrev pub BefallsHeard : Config → FlooredWorld → (old new : List FlooredParts) → Option Notice → Fault → Type 0
BefallsHeard config world old new None fault = fault ≡ NoFault
BefallsHeard config world old new (Some notice) fault =
    BefallsRaised config old new notice.receiver (node_at config world.machine notice.receiver) fault

-- a fault is true to what befell the node that an event reached; to arm a tear meets none
abbrev pub BefallsEvent : Config → FlooredWorld → Event → (old new : List FlooredParts) → Fault → Type 0
BefallsEvent config world (Restart who) old new fault = BefallsRestarted config old new who (node_at config world.machine who) fault
BefallsEvent config world (Compact who) old new fault = BefallsCompacted config old new who (node_at config world.machine who) fault
BefallsEvent config world (Tear who n) old new fault =
    (fault ≡ NoFault) × IsArmed config old new who n (node_at config world.machine who)
BefallsEvent config world (Raise rm floor) old new fault = BefallsRaised config old new (R rm) (node_at config world.machine (R rm)) fault
BefallsEvent config world (Hear n) old new fault = BefallsHeard config world old new (notice_at world.notices n) fault
BefallsEvent config world (Replace who floor) old new fault = BefallsReplaced config old new who (node_at config world.machine who) fault
BefallsEvent config world event old new fault = BefallsReached config world old new (handed world.machine event) fault

-- a fault is true to what happened: where memory was wanted before a node was reached, no node has changed
abbrev pub BefallsIn : Config → FlooredWorld → Event → (old new : List FlooredParts) → Fault → Type 0
BefallsIn config world event old new NoMemoryBefore = new ≡ old
BefallsIn config world event old new fault = BefallsEvent config world event old new fault

-- what a node is stays, also where its floor rises: its name, its cluster's sizes, its first rows, and whether its record may fail of
-- itself
pub record IsSameFloored (old new : FlooredParts) : Type 0 where
  pub who_is : new.node.who ≡ old.node.who
  pub sizes_are : new.node.sizes ≡ old.node.sizes
  pub rows_are : new.node.rows ≡ old.node.rows
  pub may_fail_is : new.node.held.nature.may_fail ≡ old.node.held.nature.may_fail

-- what a cluster is stays: its sizes, and what each of its nodes is
pub record IsSameCluster (old new : ClusterParts) : Type 0 where
  pub sizes_are : new.sizes ≡ old.sizes
  pub nodes_are : AllZip IsSameFloored old.nodes new.nodes

-- what an event was answered is what comes of it in a world, and so are the datagrams and the notices that the cluster has now
pub record ComesTo (config : Config) (new : ClusterParts) (answered : Answered) (result : FlooredResult) : Type 0 where
  pub answer_is : answered.answer ≡ result.answer
  pub now_is : answered.now ≡ result.now
  pub stands : ClusterStands config new result.world

-- what comes of an input at a node with a floor, in a world with floors
abbrev pub reached_result : Config → FlooredWorld → World → NodeId → Input → Fault → FlooredResult
reached_result config world machine who input fault =
    let result = at_floored_node config machine (world.floor who) who input fault in
    record { world = record world { machine = result.world }; answer = result.answer; now = result.now; sent = result.sent; noticed = [] }

-- a node was handed an input, as the world hands it to its own, under a fault that is true; all others stay
pub record ReachesAs (config : Config) (world : FlooredWorld) (machine : World) (who : NodeId) (input : Input) (old new : ClusterParts)
    (answered : Answered) : Type 0 where
  pub fault : Fault
  pub reached : fault ≡ NoMemoryBefore → ⊥
  pub same : IsSameCluster old new
  pub others : StayBut (place config who) old.nodes new.nodes
  pub befalls : BefallsAt config world old.nodes new.nodes (who, input) (node_at config machine who) fault
  pub comes : ComesTo config new answered (reached_result config world machine who input fault)

-- whatever world the cluster stood for
abbrev pub Reaches : NodeId → Input → (old new : ClusterParts) → Answered → Type 0
Reaches who input old new answered =
    (config : Config) (world : FlooredWorld) → ClusterStands config old world
    → ReachesAs config world world.machine who input old new answered

-- an event was handled as in a world with floors, under a fault that is true, and all nodes but the one that it reached stay
pub record OccursAs (config : Config) (world : FlooredWorld) (event : Event) (old new : ClusterParts) (step : Step) : Type 0 where
  pub same : IsSameCluster old new
  pub others : StayBut (place_reached config world event) old.nodes new.nodes
  pub fault : Fault
  pub befalls : BefallsIn config world event old.nodes new.nodes fault
  pub step_is : step ≡ floored_step_of world event (step_with_floors config world event fault)
  pub stands : ClusterStands config new (step_with_floors config world event fault).world

-- a datagram as it is listed with its number; not at all, where its bytes spell no message
abbrev pub listed_at : ℕ → DatagramParts → List Sent
listed_at number kept = option_map_or (λ message.
    record { number = number; sender = kept.sender; receiver = kept.receiver; message = message } ∷ []) (message_at kept.bytes) []

-- datagrams by their numbers, the first of which is given
abbrev pub listed_from : ℕ → List DatagramParts → List Sent
listed_from number [] = []
listed_from number (kept ∷ rest) = listed_at number kept ++ listed_from (suc number) rest

-- the datagrams of a network after so many, by their numbers
abbrev pub sent_after : ℕ → NetworkParts → List Sent
sent_after count network = listed_from (suc count) (drop count network.datagrams)

-- the notices after so many, by their numbers
abbrev pub told_after : ℕ → NoticesParts → List Told
told_after count notices = told_from (suc count) (drop count notices.all)

-- the step of an event that was answered this, whose datagrams and notices are those that the cluster has now and hadn't before
abbrev pub step_by : Event → Answered → (old new : ClusterParts) → Step
step_by event answered old new = record {
  event = event;
  answer = answered.answer;
  now = answered.now;
  sent = sent_after (length old.network.datagrams) new.network;
  told = told_after (length old.notices.all) new.notices;
}

-- whatever world the cluster stood for
abbrev pub Occurs : Event → (old new : ClusterParts) → Step → Type 0
Occurs event old new step =
    (config : Config) (world : FlooredWorld) → ClusterStands config old world → OccursAs config world event old new step

-- an event that was answered this was handled as in a world with floors
abbrev pub HappensAs : Config → FlooredWorld → Event → (old new : ClusterParts) → Answered → Type 0
HappensAs config world event old new answered = OccursAs config world event old new (step_by event answered old new)

-- whatever world the cluster stood for
abbrev pub Happens : Event → (old new : ClusterParts) → Answered → Type 0
Happens event old new answered = Occurs event old new (step_by event answered old new)
