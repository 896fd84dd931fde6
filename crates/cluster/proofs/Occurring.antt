-- What was answered of an event is what comes of it in a world with floors.
-- Needed by `Cluster::step`, `events_are_safe`, `happen`, `noise` and `unmade`; Handed, Raised, Renewed and Replaced.
use Rattle.std.proofs.Common.{◌≡◌, ◌∙◌, ℕ, zero, suc, ◌<◌, ◌≤◌, Bool, true, false, List, [], ◌∷◌, ◌++◌, length, take, drop}
use Rattle.std.proofs.Common.{Option, Some, None, refl, sym, ap, subst, nat_lt, arith}
use Rattle.std.specs.Prelude.{if◌then◌else◌, is_some}
use Rattle.std.specs.Option.{option_map, option_and_then}
use Rattle.std.proofs.lemmas.Bool.{lt-ltb, le-ltb}
use Rattle.std.proofs.lemmas.List.{take-append-drop}
use Rattle.xid.specs.declared.refusals.Refusal.TheVariants as refusals
use Rattle.wire.specs.Decoding.{message_at, spells_message}
use Rattle.wire.specs.Grammar.{Spells, spelling}
use Rattle.wire.specs.declared.message.Kind.{Kind}
use Rattle.wire.proofs.DecodingLemmas.{found as message_found}
use Rattle.wire.proofs.OneSpelling.{begins_none}
use Rattle.protocol.specs.declared.answers.Answer.{Answer}
use Rattle.protocol.specs.declared.answers.Answer.TheVariants.{Done, Refused}
use Rattle.protocol.specs.declared.events.Change.{Change}
use Rattle.protocol.specs.declared.events.Event.{Event}
use Rattle.protocol.specs.declared.events.Event.TheVariants.{Ask, Deliver, Lose, Cut, Noise, Tear, Restart, Compact}
use Rattle.protocol.specs.declared.events.Sent.{Sent}
use Rattle.protocol.specs.declared.events.Step.{Step}
use Rattle.protocol.specs.declared.nodes.NodeId.{NodeId}
use Rattle.protocol.specs.declared.requests.Request.{Request}
use Rattle.protocol.specs.Effects.{Config}
use Rattle.protocol.specs.Nodes.{NodeState, Input, Asked, Received, ReceivedNoise, Fault, NoFault, NoMemoryBefore, NoMemoryAt, RecordFails}
use Rattle.protocol.specs.Worlds.{World, Datagram, StepResult, place, node_at, at_node, answer_result, datagram_at, mark_at, with_mark}
use Rattle.protocol.specs.Worlds.{if_found}
use Rattle.protocol.specs.declared.events.Told.{Told}
use Rattle.floors.specs.Runs.{After}
use Rattle.floors.specs.Worlds.{FlooredEvent, FlooredResult, FlooredWorld, Machine, at_floored_node, floored_answer, floored_dispatch}
use Rattle.floors.specs.Worlds.{floored_step_of, machine_result, nothing_told, step_with_floors, with_entry, with_floors}
use Rattle.floors.specs.Worlds as floored
use Rattle.floored.specs.Nodes.{FlooredParts}
use Rattle.node_core.specs.declared.config.Sizes.{Sizes}
use Rattle.network.specs.Networks.{NetworkParts, StandsFor}
use Rattle.cluster.specs.declared.handing.Answered.{Answered}
use Rattle.cluster.specs.Clusters.{ClusterParts, NoticesParts, cluster_of, ClusterStands, IsSound, IsSameCluster, ReachesAs, ComesTo}
use Rattle.cluster.specs.Clusters.{BefallsAt, BefallsReached, IsArmed, BefallsRestarted, BefallsCompacted, BefallsEvent, BefallsIn}
use Rattle.cluster.specs.Clusters.{HappensAs, Happens, Occurs, sent_after, step_by, told_after, handed, handed_cut, place_reached, StayBut}
use Rattle.cluster.proofs.Noticed.{sent_with_floors, told_with_floors}
use Rattle.cluster.proofs.Reaching.{came_of}
use Rattle.cluster.proofs.Sent.{none_by}
use Rattle.cluster.proofs.Standing.{unchanged, all_stay}

-- ---- bytes

-- fewer than all bytes of a message spell none
pub cut_is_noise : (bytes : List ℕ) (d : Kind) (k : ℕ) → Spells d bytes → k < length bytes → message_at (take k bytes) ≡ None
cut_is_noise bytes d k spells lt =
    none_by (take k bytes) (message_at (take k bytes)) refl (λ m s.
    let all : spelling m ++ drop k bytes ≡ spelling d =
    ap (λ (xs : List ℕ). xs ++ drop k bytes) (sym s.spelled) ∙ take-append-drop k bytes ∙ spells.spelled in
    let rest : drop k bytes ≡ [] = (begins_none m d (drop k bytes) s.message spells.message all).1 in
    absurd (left k bytes lt rest))
  where
    left : (k : ℕ) (xs : List ℕ) → k < length xs → drop k xs ≡ [] → ⊥
    left k [] lt e = absurd (omega (arith, lt))
    left zero (x ∷ xs) lt e = absurd (cc (e))
    left (suc k) (x ∷ xs) lt e = left k xs (omega (arith, lt)) e

-- ---- marks

-- to mark a datagram that isn't there changes nothing
pub mark_absent : (net : List Datagram) (n : ℕ) → datagram_at net n ≡ None → mark_at net n ≡ net
mark_absent [] n e = refl
mark_absent (d ∷ net) zero e = refl
mark_absent (d ∷ net) (suc zero) e = absurd (cc (e))
mark_absent (d ∷ net) (suc (suc n)) e = ap (λ (ds : List Datagram). d ∷ ds) (mark_absent net (suc n) e)

-- ---- any event

-- the step that was made of an event
abbrev pub step_made : Event → Answer → Option Change → List Sent → List Told → Step
step_made event answer now sent told = record { event = event; answer = answer; now = now; sent = sent; told = told }

-- what came of an event of the machine, in a world with floors
abbrev pub as_floored : FlooredWorld → Event → StepResult → FlooredResult
as_floored world event result = record {
  world = record world { machine = result.world; told = floored.told_after world.told event };
  answer = result.answer;
  now = result.now;
  sent = result.sent;
  noticed = [];
}

-- the node of an event that is reached, or none
module _ (config : Config) (world : FlooredWorld) (event : Event) (old new : ClusterParts) (answered : Answered)
    (stood : ClusterStands config old world) where
  dispatched : (fault : Fault) → (fault ≡ NoMemoryBefore → ⊥)
      → step_with_floors config world event fault ≡ floored_dispatch config world (with_floors event) fault
  dispatched NoFault apart = refl
  dispatched NoMemoryBefore apart = absurd (apart refl)
  dispatched NoMemoryAt apart = refl
  dispatched (RecordFails whole) apart = refl

  befallen : (fault : Fault) → (fault ≡ NoMemoryBefore → ⊥) → BefallsEvent config world event old.nodes new.nodes fault
      → BefallsIn config world event old.nodes new.nodes fault
  befallen NoFault apart b = b
  befallen NoMemoryBefore apart b = absurd (apart refl)
  befallen NoMemoryAt apart b = b
  befallen (RecordFails whole) apart b = b

  -- what was answered, and what the cluster's datagrams and notices are, make the step
  step_same : (fault : Fault) → ComesTo config new answered (step_with_floors config world event fault)
      → step_by event answered old new ≡ floored_step_of world event (step_with_floors config world event fault)
  step_same fault comes =
      let result : FlooredResult = step_with_floors config world event fault in
      let sent : List Sent = sent_after (length old.network.datagrams) new.network in
      let told : List Told = told_after (length old.notices.all) new.notices in
      let sent_now : List Sent = (floored_step_of world event result).sent in
      ap (λ (a : Answer). step_made event a answered.now sent told) comes.answer_is
      ∙ ap (λ (c : Option Change). step_made event result.answer c sent told) comes.now_is
      ∙ ap (λ (s : List Sent). step_made event result.answer result.now s told)
      (sent_with_floors config world event fault old.network new.network stood.net_is comes.stands.net_is)
      ∙ ap (λ (t : List Told). step_made event result.answer result.now sent_now t)
      (told_with_floors config world event fault old.notices new.notices stood.notices_are comes.stands.notices_are)

  -- what changed as the event says is what occurs
  pub occurs : IsSameCluster old new → StayBut (place_reached config world event) old.nodes new.nodes → (fault : Fault)
      → (fault ≡ NoMemoryBefore → ⊥)
      → BefallsEvent config world event old.nodes new.nodes fault → (result : FlooredResult)
      → floored_dispatch config world (with_floors event) fault ≡ result
      → ComesTo config new answered result → HappensAs config world event old new answered
  occurs same others fault apart befalls result is comes =
      let made : result ≡ step_with_floors config world event fault = sym is ∙ sym (dispatched fault apart) in
      let same_comes : ComesTo config new answered (step_with_floors config world event fault) =
      subst (ComesTo config new answered) made comes in
      record {
        same = same;
        others = others;
        fault = fault;
        befalls = befallen fault apart befalls;
        step_is = step_same fault same_comes;
        stands = same_comes.stands;
      }

  -- an event of the machine
  pub occurs_there : IsSameCluster old new → StayBut (place_reached config world event) old.nodes new.nodes → (fault : Fault)
      → (fault ≡ NoMemoryBefore → ⊥)
      → BefallsEvent config world event old.nodes new.nodes fault → with_floors event ≡ Machine event → (result : StepResult)
      → machine_result config world event fault ≡ result
      → ComesTo config new answered (as_floored world event result) → HappensAs config world event old new answered
  occurs_there same others fault apart befalls named result is comes =
      occurs same others fault apart befalls (as_floored world event result)
      (ap (λ (e : FlooredEvent). floored_dispatch config world e fault) named ∙ ap (as_floored world event) is) comes

  -- there was no room
  pub refused_before : new.sizes ≡ old.sizes → new.nodes ≡ old.nodes → answered.answer ≡ Refused refusals.NoMemory → answered.now ≡ None
      → ClusterStands config new world → HappensAs config world event old new answered
  refused_before sizes_are nodes_are answer_is now_is stands = record {
    same = unchanged old new sizes_are nodes_are;
    others = all_stay (place_reached config world event) old.nodes new.nodes nodes_are;
    fault = NoMemoryBefore;
    befalls = nodes_are;
    step_is =
        step_same NoMemoryBefore (record { answer_is = answer_is; now_is = now_is; stands = stands });
    stands = stands;
  }

-- an answer alone
pub comes_quiet : (config : Config) (after : FlooredWorld) (new : ClusterParts) (answered : Answered) (answer : Answer)
    → answered.answer ≡ answer → answered.now ≡ None → ClusterStands config new after
    → ComesTo config new answered (floored_answer after answer)
comes_quiet config after new answered answer answer_is now_is stands =
    record { answer_is = answer_is; now_is = now_is; stands = stands }

-- no fault doesn't come before a node is reached
pub no_fault : NoFault ≡ NoMemoryBefore → ⊥
no_fault e = absurd (cc (e))

-- ---- each event

module _ (config : Config) (world : FlooredWorld) (old new : ClusterParts) (answered : Answered) where
  -- a node that isn't there is not reached
  pub reaches_none : new.sizes ≡ old.sizes → new.nodes ≡ old.nodes → (who : NodeId) (input : Input)
      → node_at config world.machine who ≡ None → answered.answer ≡ Refused refusals.NoSuch
      → answered.now ≡ None → ClusterStands config new world
      → ReachesAs config world world.machine who input old new answered
  reaches_none sizes_are nodes_are who input none answer_is now_is stands = record {
    fault = NoFault;
    reached = no_fault;
    same = unchanged old new sizes_are nodes_are;
    others = all_stay (place config who) old.nodes new.nodes nodes_are;
    befalls = subst (λ (o : Option NodeState). BefallsAt config world old.nodes new.nodes (who, input) o NoFault) (sym none) refl;
    comes =
        let absent : at_floored_node config world.machine (world.floor who) who input NoFault
        ≡ answer_result world.machine (Refused refusals.NoSuch) = ap (if_found world.machine _) none in
        subst (λ (r : StepResult). ComesTo config new answered (came_of world r)) (sym absent)
        (comes_quiet config world new answered (Refused refusals.NoSuch) answer_is now_is stands);
  }

  -- what reached a node that was handed something
  handed_to : (h : Option (NodeId × Input)) (who : NodeId) (input : Input) → h ≡ Some (who, input)
      → StayBut (place config who) old.nodes new.nodes
      → StayBut (option_and_then (place config) (option_map (λ (on : NodeId × Input). on.0) h)) old.nodes new.nodes
  handed_to h who input is others =
      subst (λ (o : Option (NodeId × Input)). StayBut (option_and_then (place config) (option_map (λ (on : NodeId × Input). on.0) o))
      old.nodes new.nodes) (sym is) others

  -- no node is handed anything
  none_handed : (h : Option (NodeId × Input)) → h ≡ None → BefallsReached config world old.nodes new.nodes h NoFault
  none_handed h none =
      subst (λ (o : Option (NodeId × Input)). BefallsReached config world old.nodes new.nodes o NoFault) (sym none) refl

module _ (config : Config) (world : FlooredWorld) (old new : ClusterParts) (answered : Answered)
    (stood : ClusterStands config old world) where
  abbrev machine : World
  machine = world.machine

  -- a request
  pub occurs_asked : (who : NodeId) (request : Request) → ReachesAs config world machine who (Asked request) old new answered
      → HappensAs config world (Ask who request) old new answered
  occurs_asked who request r =
      occurs_there config world (Ask who request) old new answered stood r.same r.others r.fault r.reached r.befalls refl
      (at_floored_node config machine (world.floor who) who (Asked request) r.fault) refl r.comes

  -- no node or datagram is there
  pub not_there : new.sizes ≡ old.sizes → new.nodes ≡ old.nodes → (event : Event) → with_floors event ≡ Machine event
      → BefallsEvent config world event old.nodes new.nodes NoFault
      → machine_result config world event NoFault ≡ answer_result machine (Refused refusals.NoSuch)
      → answered.answer ≡ Refused refusals.NoSuch → answered.now ≡ None
      → ClusterStands config new (record world { told = floored.told_after world.told event })
      → HappensAs config world event old new answered
  not_there sizes_are nodes_are event named befalls is answer_is now_is stands =
      occurs_there config world event old new answered stood (unchanged old new sizes_are nodes_are)
      (all_stay (place_reached config world event) old.nodes new.nodes nodes_are) NoFault no_fault befalls named
      (answer_result machine (Refused refusals.NoSuch)) is
      (record { answer_is = answer_is; now_is = now_is; stands = stands })

  module _ (sizes_are : new.sizes ≡ old.sizes) (nodes_are : new.nodes ≡ old.nodes) (n : ℕ) where
    -- a delivery of a datagram that isn't there
    pub undelivered : datagram_at machine.net n ≡ None → answered.answer ≡ Refused refusals.NoSuch → answered.now ≡ None
        → ClusterStands config new world → HappensAs config world (Deliver n) old new answered
    undelivered none =
        not_there sizes_are nodes_are (Deliver n) refl
        (none_handed config world old new answered (handed machine (Deliver n))
        (ap (option_map (λ (d : Datagram). (d.receiver, Received d.message))) none))
        (ap (if_found machine _) none)

    -- a loss of one
    pub unlost : datagram_at machine.net n ≡ None → answered.answer ≡ Refused refusals.NoSuch → answered.now ≡ None
        → ClusterStands config new world → HappensAs config world (Lose n) old new answered
    unlost none = not_there sizes_are nodes_are (Lose n) refl refl (ap (if_found machine _) none)

    -- the front of one
    pub uncut : (k : ℕ) → datagram_at machine.net n ≡ None → answered.answer ≡ Refused refusals.NoSuch → answered.now ≡ None
        → ClusterStands config new world → HappensAs config world (Cut n k) old new answered
    uncut k none =
        not_there sizes_are nodes_are (Cut n k) refl
        (none_handed config world old new answered (handed machine (Cut n k)) (ap (option_and_then (handed_cut k)) none))
        (ap (if_found machine _) none)

  module _ (sizes_are : new.sizes ≡ old.sizes) (nodes_are : new.nodes ≡ old.nodes) (who : NodeId)
      (none : node_at config machine who ≡ None) where
    -- a tear of a node that isn't there
    pub not_torn : (n : ℕ) → answered.answer ≡ Refused refusals.NoSuch → answered.now ≡ None
        → ClusterStands config new world → HappensAs config world (Tear who n) old new answered
    not_torn n =
        not_there sizes_are nodes_are (Tear who n) refl
        (refl, subst (λ (o : Option NodeState). IsArmed config old.nodes new.nodes who n o) (sym none) tt)
        (ap (if_found machine _) none)

    -- it was told nothing any more
    pub not_restarted : answered.answer ≡ Refused refusals.NoSuch → answered.now ≡ None
        → ClusterStands config new (record world { told = with_entry world.told who nothing_told })
        → HappensAs config world (Restart who) old new answered
    not_restarted =
        not_there sizes_are nodes_are (Restart who) refl
        (subst (λ (o : Option NodeState). BefallsRestarted config old.nodes new.nodes who o NoFault) (sym none) refl)
        (ap (if_found machine _) none)

    -- a compaction of one
    pub not_compacted : answered.answer ≡ Refused refusals.NoSuch → answered.now ≡ None
        → ClusterStands config new world → HappensAs config world (Compact who) old new answered
    not_compacted =
        not_there sizes_are nodes_are (Compact who) refl
        (subst (λ (o : Option NodeState). BefallsCompacted config old.nodes new.nodes who o NoFault) (sym none) refl)
        (ap (if_found machine _) none)

  module _ (n : ℕ) (d : Datagram) (is : datagram_at machine.net n ≡ Some d) where
    -- a delivery
    pub occurs_delivered : ReachesAs config world (with_mark machine n) d.receiver (Received d.message) old new answered
        → HappensAs config world (Deliver n) old new answered
    occurs_delivered r =
        let to : handed machine (Deliver n) ≡ Some (d.receiver, Received d.message) =
        ap (option_map (λ (e : Datagram). (e.receiver, Received e.message))) is in
        occurs_there config world (Deliver n) old new answered stood r.same
        (handed_to config world old new answered (handed machine (Deliver n)) d.receiver (Received d.message) to r.others) r.fault r.reached
        (subst (λ (h : Option (NodeId × Input)). BefallsReached config world old.nodes new.nodes h r.fault) (sym to) r.befalls) refl
        (at_floored_node config (with_mark machine n) (world.floor d.receiver) d.receiver (Received d.message) r.fault)
        (ap (if_found machine _) is) r.comes

    -- a loss
    pub occurs_lost : new.sizes ≡ old.sizes → new.nodes ≡ old.nodes → answered.answer ≡ Done → answered.now ≡ None
        → ClusterStands config new (record world { machine = with_mark machine n })
        → HappensAs config world (Lose n) old new answered
    occurs_lost sizes_are nodes_are answer_is now_is stands =
        occurs_there config world (Lose n) old new answered stood (unchanged old new sizes_are nodes_are)
        (all_stay (place_reached config world (Lose n)) old.nodes new.nodes nodes_are) NoFault no_fault refl refl
        (answer_result (with_mark machine n) Done) (ap (if_found machine _) is)
        (record { answer_is = answer_is; now_is = now_is; stands = stands })

    -- the front of a datagram
    pub occurs_cut : (k : ℕ) → k < length (spelling d.message) → ReachesAs config world machine d.receiver ReceivedNoise old new answered
        → HappensAs config world (Cut n k) old new answered
    occurs_cut k lt r =
        let fewer : nat_lt k (length (spelling d.message)) ≡ true = lt-ltb k (length (spelling d.message)) lt in
        let to : handed machine (Cut n k) ≡ Some (d.receiver, ReceivedNoise) =
        ap (option_and_then (handed_cut k)) is ∙ ap (λ (b : Bool). if b then Some (d.receiver, ReceivedNoise) else None) fewer in
        occurs_there config world (Cut n k) old new answered stood r.same
        (handed_to config world old new answered (handed machine (Cut n k)) d.receiver ReceivedNoise to r.others) r.fault
        r.reached
        (subst (λ (h : Option (NodeId × Input)). BefallsReached config world old.nodes new.nodes h r.fault) (sym to) r.befalls) refl
        (at_node config machine d.receiver ReceivedNoise r.fault)
        (ap (if_found machine _) is
        ∙ ap (λ (b : Bool). if b then at_node config machine d.receiver ReceivedNoise r.fault else answer_result machine
        (Refused refusals.NoSuch)) fewer)
        r.comes

    -- a front that would be the whole
    pub not_cut : new.sizes ≡ old.sizes → new.nodes ≡ old.nodes → (k : ℕ) → length (spelling d.message) ≤ k
        → answered.answer ≡ Refused refusals.NoSuch → answered.now ≡ None → ClusterStands config new world
        → HappensAs config world (Cut n k) old new answered
    not_cut sizes_are nodes_are k le =
        let all : nat_lt k (length (spelling d.message)) ≡ false = le-ltb k (length (spelling d.message)) le in
        not_there sizes_are nodes_are (Cut n k) refl
        (none_handed config world old new answered (handed machine (Cut n k))
        (ap (option_and_then (handed_cut k)) is ∙ ap (λ (b : Bool). if b then Some (d.receiver, ReceivedNoise) else None) all))
        (ap (if_found machine _) is
        ∙ ap (λ (b : Bool). if b then at_node config machine d.receiver ReceivedNoise NoFault else answer_result machine
        (Refused refusals.NoSuch)) all)

  module _ (who : NodeId) (bytes : List ℕ) where
    -- bytes that spell no message
    pub occurs_noise : message_at bytes ≡ None → ReachesAs config world machine who ReceivedNoise old new answered
        → HappensAs config world (Noise who bytes) old new answered
    occurs_noise none r =
        let no : spells_message bytes ≡ false = ap is_some none in
        let to : handed machine (Noise who bytes) ≡ Some (who, ReceivedNoise) =
        ap (λ (b : Bool). if b then None else Some (who, ReceivedNoise)) no in
        occurs_there config world (Noise who bytes) old new answered stood r.same
        (handed_to config world old new answered (handed machine (Noise who bytes)) who ReceivedNoise to r.others)
        r.fault r.reached
        (subst (λ (h : Option (NodeId × Input)). BefallsReached config world old.nodes new.nodes h r.fault) (sym to) r.befalls) refl
        (at_node config machine who ReceivedNoise r.fault)
        (ap (λ (b : Bool). if b then if_found machine (λ (node : NodeState). answer_result machine (Refused refusals.Forged))
        (node_at config machine who)
        else at_node config machine who ReceivedNoise r.fault) no)
        r.comes

    -- bytes that spell one
    pub occurs_forged : new.sizes ≡ old.sizes → new.nodes ≡ old.nodes → (k : Kind) → Spells k bytes → (answer : Answer)
        → if_found machine (λ (node : NodeState). answer_result machine (Refused refusals.Forged))
        (node_at config machine who) ≡ answer_result machine answer
        → answered.answer ≡ answer → answered.now ≡ None → ClusterStands config new world
        → HappensAs config world (Noise who bytes) old new answered
    occurs_forged sizes_are nodes_are k spells answer is answer_is now_is stands =
        let spelled : spells_message bytes ≡ true = ap is_some (message_found k bytes spells) in
        occurs_there config world (Noise who bytes) old new answered stood (unchanged old new sizes_are nodes_are)
        (all_stay (place_reached config world (Noise who bytes)) old.nodes new.nodes nodes_are) NoFault no_fault
        (subst (λ (h : Option (NodeId × Input)). BefallsReached config world old.nodes new.nodes h NoFault)
        (sym (ap (λ (b : Bool). if b then None else Some (who, ReceivedNoise)) spelled)) refl) refl
        (answer_result machine answer)
        (ap (λ (b : Bool). if b then if_found machine (λ (node : NodeState). answer_result machine (Refused refusals.Forged))
        (node_at config machine who)
        else at_node config machine who ReceivedNoise NoFault) spelled
        ∙ is)
        (comes_quiet config world new answered answer answer_is now_is stands)

-- ---- what stays

-- a cluster that stood for a world that can come to be still does
pub sound_after : (event : Event) (old new : ClusterParts) (step : Step) → IsSound old → Occurs event old new step → IsSound new
sound_after event old new step sound happens =
    let o = happens sound.config sound.world sound.is in record {
      config = sound.config;
      world = (step_with_floors sound.config sound.world event o.fault).world;
      reached = After sound.world (with_floors event) o.fault sound.reached;
      is = o.stands;
    }

-- another network that stands for the same datagrams
pub with_network : (config : Config) (world : FlooredWorld) (sizes : Sizes) (nodes : List FlooredParts) (before after : NetworkParts)
    (notices : NoticesParts) → ((net : List Datagram) → StandsFor before net → StandsFor after net)
    → ClusterStands config (cluster_of sizes nodes before notices) world → ClusterStands config (cluster_of sizes nodes after notices) world
with_network config world sizes nodes before after notices same s = record {
  sizes_are = s.sizes_are;
  nodes_are = s.nodes_are;
  net_is = same world.machine.net s.net_is;
  told_are = s.told_are;
  notices_are = s.notices_are;
}

-- or for those with one marked
pub with_marked : (config : Config) (world : FlooredWorld) (sizes : Sizes) (nodes : List FlooredParts) (before after : NetworkParts)
    (notices : NoticesParts) (n : ℕ) → ((net : List Datagram) → StandsFor before net → StandsFor after (mark_at net n))
    → ClusterStands config (cluster_of sizes nodes before notices) world
    → ClusterStands config (cluster_of sizes nodes after notices) (record world { machine = with_mark world.machine n })
with_marked config world sizes nodes before after notices n marks s = record {
  sizes_are = s.sizes_are;
  nodes_are = s.nodes_are;
  net_is = marks world.machine.net s.net_is;
  told_are = s.told_are;
  notices_are = s.notices_are;
}

-- the same event by another name
pub named_as : (event other : Event) → other ≡ event → (old new : ClusterParts) (answered : Answered)
    → Happens event old new answered → Happens other old new answered
named_as event other same old new answered happens = subst (λ (e : Event). Happens e old new answered) (sym same) happens
