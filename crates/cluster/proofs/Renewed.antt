-- A node is torn, restarted or compacted: what comes of it is what comes of it in a world with floors.
-- Needed by `compact`, `restart` and `tear`; Replaced.
use Rattle.std.proofs.Common.{◌≡◌, ◌∙◌, inl, inr, ℕ, ◌<◌, Bool, true, false, if◌then◌else◌, List, [], ◌++◌, length, get_or, set}
use Rattle.std.proofs.Common.{Option, Some, None, refl, sym, ap, subst, arith}
use Rattle.std.specs.Prelude.{slice_get, replicate, Result, Ok, Err}
use Rattle.std.specs.List.{flat_map}
use Rattle.std.proofs.lemmas.List.{append-nil, length-replicate, get_or-replicate}
use Rattle.xid.specs.declared.refusals.Refusal.{Refusal}
use Rattle.stable_record.specs.declared.fact.FactKind.{FactKind as Fact}
use Rattle.stable_record.specs.Held.{Held, armed_with}
use Rattle.protocol.specs.declared.answers.Answer.TheVariants.{Done, Refused}
use Rattle.protocol.specs.declared.events.Event.TheVariants.{Tear, Restart, Compact}
use Rattle.protocol.specs.declared.nodes.NodeId.{NodeId}
use Rattle.protocol.specs.Effects.{Config}
use Rattle.protocol.specs.Nodes.{NodeState, Fault, Outcome, NoFault, NoMemoryBefore, NoMemoryAt, RecordFails, restart_outcome}
use Rattle.protocol.specs.Nodes.{compact_outcome}
use Rattle.protocol.specs.Worlds.{World, Datagram, StepResult, place, node_at, set_node, datagrams_of, change_of, if_found}
use Rattle.protocol.specs.Worlds.{answer_result, outcome_result}
use Rattle.safety.proofs.World.Changes.{compact_keeps, restart_keeps}
use Rattle.node_core.specs.declared.config.Sizes.{Sizes}
use Rattle.node_core.specs.Nodes.{NodeParts, NodeStands, IsSameNode}
use Rattle.node_core.specs.Compacting.{BefallsCompact, IsRecompacted, CompactsAs}
use Rattle.node_core.specs.Opening.{BefallsRestart, restart_answer}
use Rattle.floors.specs.Worlds.{FlooredWorld, nothing_told, with_entry}
use Rattle.floors.proofs.Nodes.{restart_silent, compact_silent}
use Rattle.node_core.specs.Configs.{config_by}
use Rattle.node_core.proofs.Changes.{unchanged}
use Rattle.floored.specs.Nodes.{FlooredCompacts, FlooredCompactsDown, FlooredCompactsUp, FlooredParts, FlooredRestarts, FlooredStands}
use Rattle.floored.specs.Told.{told_at}
use Rattle.network.specs.Networks.{NetworkParts, StandsFor}
use Rattle.cluster.specs.declared.handing.Answered.{Answered}
use Rattle.cluster.specs.Clusters.{ClusterParts, NoticesParts, cluster_of, AreTold, ClusterStands, ComesTo, BefallsRestarted}
use Rattle.cluster.specs.Clusters.{BefallsCompacted, IsMetIf, IsArmed, IsSameFloored, StayBut, HappensAs, LeavesShorter, BefallsShorter}
use Rattle.cluster.specs.Notices.{forgotten_at, told_in}
use Rattle.cluster.proofs.Standing.{there, placed, found, named, node_put, node_kept, at_place, same_but, same_floored, others_stay}
use Rattle.cluster.proofs.Standing.{told_put, told_within}
use Rattle.cluster.proofs.Occurring.{as_floored, occurs_there, no_fault, comes_quiet}

-- what a compaction leaves of a record, by its fault
leaves_shorter : (from : Config) (who : NodeId) (facts : List Fact) (m : NodeState) (old new : Held) (fault : Fault)
    (result : Result (Unit {0}) Refusal) → BefallsCompact old new fault → restart_answer result ≡ (compact_outcome m fault).answer
    → IsRecompacted from who facts old new result → LeavesShorter from who facts old new fault
leaves_shorter from who facts m old new NoFault (Ok done) befalls answer content = content
leaves_shorter from who facts m old new NoFault (Err e) befalls answer content = absurd (cc (answer))
leaves_shorter from who facts m old new NoMemoryBefore result befalls answer content = absurd befalls
leaves_shorter from who facts m old new NoMemoryAt (Ok done) befalls answer content = absurd (cc (answer))
leaves_shorter from who facts m old new NoMemoryAt (Err e) befalls answer content =
    let wanted : e ≡ Refusal.NoMemory = cc (answer) in
    subst (λ (r : Refusal). IsRecompacted from who facts old new (Err r)) wanted content
leaves_shorter from who facts m old new (RecordFails whole) (Ok done) befalls answer content = absurd (cc (answer))
leaves_shorter from who facts m old new (RecordFails whole) (Err e) befalls answer content =
    let failed : e ≡ Refusal.RecordFault = cc (answer) in
    subst (λ (r : Refusal). IsRecompacted from who facts old new (Err r)) failed content

-- nothing is found in a list of nothing
none_in : (n rm : ℕ) → rm < n → told_at (replicate n None) rm ≡ nothing_told rm
none_in n rm few = get_or-replicate n rm None None few

module _ (config : Config) (world : FlooredWorld) (sizes : Sizes) (nodes : List FlooredParts) (network : NetworkParts)
    (notices : NoticesParts) (s : ClusterStands config (cluster_of sizes nodes network notices) world) (who : NodeId) (at : ℕ)
    (is : Some at ≡ place (config_by sizes []) who) (node new : FlooredParts) (read : node ≡ get_or nodes at node) where
  abbrev machine : World
  machine = world.machine

  abbrev before_it : ClusterParts
  before_it = cluster_of sizes nodes network notices

  abbrev after_it : ClusterParts
  after_it = cluster_of sizes (set nodes at new) network notices

  own : (m : NodeState) × (slice_get machine.nodes at ≡ Some m) × FlooredStands config (get_or nodes at node) m
  own = there config world sizes nodes network notices s who at (sym is) node

  abbrev m : NodeState
  m = own.0

  stands : FlooredStands config node m
  stands = subst (λ (x : FlooredParts). FlooredStands config x m) (sym read) own.2

  node_is : node_at config machine who ≡ Some m
  node_is = found config world sizes nodes network notices s who at (sym is) m own.1

  who_is : node.node.who ≡ who
  who_is = ap (λ (x : FlooredParts). x.node.who) read ∙ named config world sizes nodes network notices s who at (sym is) node

  others : StayBut (place config who) nodes (set nodes at new)
  others = others_stay (place config who) at nodes new (placed config world sizes nodes network notices s who at (sym is))

  here : IsSameNode node.node new.node → IsSameNode (get_or nodes at node).node new.node
  here same = subst (λ (x : FlooredParts). IsSameNode x.node new.node) read same

  same_here : IsSameNode node.node new.node → IsSameFloored (get_or nodes at node) new
  same_here same = same_floored (get_or nodes at node) new (here same)

  floor_here : new.floor ≡ node.floor → new.floor ≡ (get_or nodes at node).floor
  floor_here same = same ∙ ap (λ (x : FlooredParts). x.floor) read

  -- what is said of it is so in its place
  in_place : (P : FlooredParts → FlooredParts → Type 0) → P node new → (p : ℕ) (x : FlooredParts) → place config who ≡ Some p
      → P (get_or nodes p x) (get_or (set nodes at new) p x)
  in_place P holds =
      at_place config world sizes nodes network notices s who at (sym is) P node new (subst (λ (x : FlooredParts). P x new) read holds)

  abbrev pub forgotten : NoticesParts
  forgotten = forgotten_at at notices

  -- nothing is told to it any more
  told_count : length (told_in notices at) ≡ config.managers
  told_count = s.told_are.each_count at [] (told_within config world sizes nodes network notices s who at (sym is))

  -- nothing is told of a node any more
  pub none_told : AreTold config forgotten.told (with_entry world.told who nothing_told)
  none_told =
      told_put config world sizes nodes network notices s who at (sym is) (replicate (length (told_in notices at)) None) nothing_told
      (length-replicate (length (told_in notices at)) None ∙ told_count)
      (λ rm few. none_in (length (told_in notices at)) rm (omega (arith, few, told_count)))

  -- a tear
  module _ (n : ℕ) (holds : new.node ≡ record node.node { held = armed_with (Some n) node.node.held }) (floor_is : new.floor ≡ node.floor)
      (arms : (config : Config) (m : NodeState) → FlooredStands config node m → FlooredStands config new (record m { tear = Some n })) where
    abbrev torn : World
    torn = set_node config machine who (record m { tear = Some n })

    same : IsSameNode node.node new.node
    same = record {
      who_is = ap (λ (x : NodeParts). x.who) holds;
      sizes_are = ap (λ (x : NodeParts). x.sizes) holds;
      rows_are = ap (λ (x : NodeParts). x.rows) holds;
      nature_is = ap (λ (x : NodeParts). x.held.nature) holds;
    }

    armed : (o : Option NodeState) → IsArmed config nodes (set nodes at new) who n o
    armed None = tt
    armed (Some x) =
        in_place (λ (before after : FlooredParts). after.node ≡ record before.node { held = armed_with (Some n) before.node.held }) holds

    -- a tear
    pub torn_made : (answered : Answered) → answered.answer ≡ Done → answered.now ≡ None
        → HappensAs config world (Tear who n) before_it after_it answered
    torn_made answered answer_is now_is =
        let next : ClusterStands config after_it (record world { machine = torn }) =
        node_put config world sizes nodes network notices s who at (sym is) node new (record m { tear = Some n }) (here same)
        (floor_here floor_is) (arms config m stands) network machine.net s.net_is in
        occurs_there config world (Tear who n) before_it after_it answered s
        (same_but sizes nodes network network notices notices at node new (same_here same)) others NoFault no_fault
        (refl, armed (node_at config machine who)) refl (answer_result torn Done)
        (ap (if_found machine _) node_is)
        (record { answer_is = answer_is; now_is = now_is; stands = next })

  -- a restart
  module _ (result : Result (Unit {0}) Refusal)
      (restarts : (config : Config) (m : NodeState) → FlooredStands config node m → FlooredRestarts config m node new result) where
    restarted : FlooredRestarts config m node new result
    restarted = restarts config m stands

    abbrev fault : Fault
    fault = restarted.fault

    abbrev outcome : Outcome
    outcome = restart_outcome config who m fault

    new_stands : FlooredStands config new outcome.node
    new_stands =
        subst (λ (n : NodeId). FlooredStands config new (restart_outcome config n m fault).node) who_is restarted.stands

    befallen : (o : Option NodeState) → o ≡ Some m → BefallsRestarted config nodes (set nodes at new) who o fault
    befallen None e = absurd (cc (e))
    befallen (Some x) e =
        in_place (λ (before after : FlooredParts). BefallsRestart before.node.held after.node.held fault) restarted.befalls

    abbrev sent : List Datagram
    sent = flat_map (datagrams_of config who) outcome.sends

    none_sent : sent ≡ []
    none_sent = ap (flat_map (datagrams_of config who)) (restart_silent config who m fault)

    forgotten_made : (answered : Answered) → answered.answer ≡ restart_answer result → answered.now ≡ None
        → HappensAs config world (Restart who) before_it (cluster_of sizes (set nodes at new) network forgotten) answered
    forgotten_made answered answer_is now_is =
        let made : StepResult = outcome_result config machine who m.facts outcome in
        let put : ClusterStands config after_it (record world { machine = made.world }) =
        node_put config world sizes nodes network notices s who at (sym is) node new outcome.node (here restarted.same)
        (floor_here restarted.floor_is) new_stands network (machine.net ++ sent)
        (subst (λ (ds : List Datagram). StandsFor network ds)
        (sym (ap (λ (ds : List Datagram). machine.net ++ ds) none_sent ∙ append-nil machine.net)) s.net_is) in
        let comes : ComesTo config (cluster_of sizes (set nodes at new) network forgotten) answered (as_floored world (Restart who) made) =
        record {
          answer_is =
              answer_is ∙ restarted.answer_is ∙ ap (λ (n : NodeId). (restart_outcome config n m fault).answer) who_is;
          now_is = now_is ∙ sym (ap (change_of who m.facts) (restart_keeps config who m fault) ∙ unchanged who m.facts);
          stands = record {
            sizes_are = put.sizes_are;
            nodes_are = put.nodes_are;
            net_is = put.net_is;
            told_are = none_told;
            notices_are = s.notices_are;
          };
        } in
        occurs_there config world (Restart who) before_it (cluster_of sizes (set nodes at new) network forgotten) answered s
        (same_but sizes nodes network network notices forgotten at node new (same_here restarted.same)) others fault
        (λ e. subst (λ (f : Fault). BefallsRestart node.node.held new.node.held f) e restarted.befalls)
        (befallen (node_at config machine who) node_is) refl made (ap (if_found machine _) node_is) comes

    -- a restart
    pub restarted_made : (left : NoticesParts) → left ≡ forgotten → (answered : Answered) → answered.answer ≡ restart_answer result
        → answered.now ≡ None
        → HappensAs config world (Restart who) before_it (cluster_of sizes (set nodes at new) network left) answered
    restarted_made left left_is answered answer_is now_is =
        subst (λ (n : NoticesParts). HappensAs config world (Restart who) before_it (cluster_of sizes (set nodes at new) network n)
        answered)
        (sym left_is) (forgotten_made answered answer_is now_is)

  -- a compaction
  module _ (result : Result (Unit {0}) Refusal)
      (compacts : (config : Config) (m : NodeState) → FlooredStands config node m → FlooredCompacts config m node new result)
      (within : (config : Config) (m : NodeState) → NodeStands config node.node m → CompactsAs config m node.node new.node result) where
    compacted : FlooredCompacts config m node new result
    compacted = compacts config m stands

    -- of a node that is down
    abbrev tried : Fault → NodeState → StepResult
    tried fault x =
        if x.up then outcome_result config machine who x.facts (compact_outcome x fault) else answer_result machine (Refused Refusal.Down)

    down_made : FlooredCompactsDown config m node new result → (answered : Answered)
        → answered.answer ≡ restart_answer result → answered.now ≡ None
        → HappensAs config world (Compact who) before_it after_it answered
    down_made down answered answer_is now_is =
        let next : ClusterStands config after_it world =
        node_kept config world sizes nodes network notices s who at (sym is) node new m own.1 (here compacted.same).who_is
        (floor_here compacted.floor_is) down.stands in
        occurs_there config world (Compact who) before_it after_it answered s
        (same_but sizes nodes network network notices notices at node new (same_here compacted.same)) others NoFault no_fault
        (befallen_down (node_at config machine who) node_is) refl (answer_result machine (Refused Refusal.Down))
        (ap (if_found machine (tried NoFault)) node_is
        ∙ ap (λ (b : Bool). if b then outcome_result config machine who m.facts (compact_outcome m NoFault)
        else answer_result machine (Refused Refusal.Down)) down.down)
        (comes_quiet config world after_it answered (Refused Refusal.Down) (answer_is ∙ ap restart_answer down.result_is) now_is next)
      where
        befallen_down : (o : Option NodeState) → o ≡ Some m → BefallsCompacted config nodes (set nodes at new) who o NoFault
        befallen_down None e = absurd (cc (e))
        befallen_down (Some x) e =
            let m_is : m ≡ x = cc (e) in
            let off : x.up ≡ false = ap (λ (n : NodeState). n.up) (sym m_is) ∙ down.down in
            subst (λ (b : Bool). IsMetIf b ((p : ℕ) (d : FlooredParts) → place config who ≡ Some p
            → BefallsShorter config who x (get_or nodes p d) (get_or (set nodes at new) p d) NoFault) NoFault) (sym off)
            refl

    -- the record of a node that is up is made shorter of what it has not forgotten
    left_shorter : (up : FlooredCompactsUp config m node new result) → (stood : FlooredStands config node m)
        → LeavesShorter stood.from who stood.few.facts node.node.held new.node.held up.fault
    left_shorter up stood = elim ((within stood.from stood.few stood.is).compacts) [
      | inl is_up ↦
          leaves_shorter stood.from who stood.few.facts m node.node.held new.node.held up.fault result up.befalls up.answer_is
          (subst (λ (n : NodeId). IsRecompacted stood.from n stood.few.facts node.node.held new.node.held result) who_is is_up.content)
      | inr is_down ↦
          let both : true ≡ false = sym (ap (λ (n : NodeState). n.up) stood.above.node_is ∙ up.up) ∙ is_down.down in absurd (cc (both))
    ]

    -- of a node that is up
    up_made : FlooredCompactsUp config m node new result → (answered : Answered)
        → answered.answer ≡ restart_answer result → answered.now ≡ None
        → HappensAs config world (Compact who) before_it after_it answered
    up_made up answered answer_is now_is =
        let left : Outcome = compact_outcome m up.fault in
        let none : flat_map (datagrams_of config who) left.sends ≡ [] =
        ap (flat_map (datagrams_of config who)) (compact_silent m up.fault) in
        let made : StepResult = outcome_result config machine who m.facts left in
        let comes : ComesTo config after_it answered (as_floored world (Compact who) made) =
        record {
          answer_is = answer_is ∙ up.answer_is;
          now_is = now_is ∙ sym (ap (change_of who m.facts) (compact_keeps m up.fault) ∙ unchanged who m.facts);
          stands =
              node_put config world sizes nodes network notices s who at (sym is) node new left.node (here compacted.same)
              (floor_here compacted.floor_is) up.stands network
              (machine.net ++ flat_map (datagrams_of config who) left.sends)
              (subst (λ (ds : List Datagram). StandsFor network ds)
              (sym (ap (λ (ds : List Datagram). machine.net ++ ds) none ∙ append-nil machine.net)) s.net_is);
        } in
        occurs_there config world (Compact who) before_it after_it answered s
        (same_but sizes nodes network network notices notices at node new (same_here compacted.same)) others up.fault
        (λ e. subst (λ (f : Fault). BefallsCompact node.node.held new.node.held f) e up.befalls)
        (befallen_up (node_at config machine who) node_is) refl made
        (ap (if_found machine (tried up.fault)) node_is
        ∙ ap (λ (b : Bool). if b then outcome_result config machine who m.facts (compact_outcome m up.fault)
        else answer_result machine (Refused Refusal.Down)) up.up)
        comes
      where
        befallen_up : (o : Option NodeState) → o ≡ Some m → BefallsCompacted config nodes (set nodes at new) who o up.fault
        befallen_up None e = absurd (cc (e))
        befallen_up (Some x) e =
            let m_is : m ≡ x = cc (e) in
            let befallen : BefallsShorter config who m node new up.fault = (up.befalls, left_shorter up) in
            subst (λ (n : NodeState). IsMetIf n.up ((p : ℕ) (d : FlooredParts) → place config who ≡ Some p
            → BefallsShorter config who n (get_or nodes p d) (get_or (set nodes at new) p d) up.fault) up.fault) m_is
            (subst (λ (b : Bool). IsMetIf b ((p : ℕ) (d : FlooredParts) → place config who ≡ Some p
            → BefallsShorter config who m (get_or nodes p d) (get_or (set nodes at new) p d) up.fault) up.fault) (sym up.up)
            (in_place (λ (before after : FlooredParts). BefallsShorter config who m before after up.fault) befallen))

    -- a compaction
    pub compacted_made : (answered : Answered) → answered.answer ≡ restart_answer result → answered.now ≡ None
        → HappensAs config world (Compact who) before_it after_it answered
    compacted_made answered answer_is now_is = elim (compacted.comes) [
      | inl up ↦ up_made up answered answer_is now_is
      | inr down ↦ down_made down answered answer_is now_is
    ]
