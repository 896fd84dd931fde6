-- A floor rises, and a notice is heard: what comes of it is what comes of it in a world with floors.
-- Needed by `hear` and `raise`.
use Rattle.std.proofs.Common.{◌≡◌, ◌∙◌, ℕ, zero, suc, ◌<◌, Bool, true, false, if◌then◌else◌, List, [], ◌++◌, length, get_or, set, Option}
use Rattle.std.proofs.Common.{Some, None, refl, sym, ap, subst, arith}
use Rattle.std.specs.Prelude.{is_none, is_some, slice_get, Result, Ok, Err, OnOk, OnErr}
use Rattle.std.specs.Option.{option_and_then, option_map}
use Rattle.std.proofs.lemmas.List.{append-nil, get_or_default}
use Rattle.std.proofs.lemmas.List.FromFn.{fill_by_all}
use Rattle.xid.specs.Places.{Place}
use Rattle.xid.specs.declared.refusals.Refusal.{Refusal}
use Rattle.xid.specs.declared.refusals.Refusal.TheVariants as refusals
use Rattle.protocol.specs.declared.answers.Answer.{Answer}
use Rattle.protocol.specs.declared.answers.Answer.TheVariants.{Done, Refused}
use Rattle.protocol.specs.declared.events.Event.TheVariants.{Raise, Hear}
use Rattle.protocol.specs.declared.nodes.NodeId.{NodeId}
use Rattle.protocol.specs.declared.nodes.NodeId.TheVariants.{A, L, R}
use Rattle.protocol.specs.Effects.{Config}
use Rattle.protocol.specs.Nodes.{NodeState, Fault, NoFault, NoMemoryBefore}
use Rattle.protocol.specs.Worlds.{World, node_at, place as place_of}
use Rattle.node_core.specs.declared.config.Sizes.{Sizes}
use Rattle.node_core.specs.Opening.{restart_answer}
use Rattle.floors.specs.Nodes.{Rise, kept_rise, on_least, on_raise}
use Rattle.floors.specs.Worlds.{FlooredResult, FlooredWorld, Notice, floored_answer, floored_dispatch, floored_if_found, hear_at}
use Rattle.floors.specs.Worlds.{hear_result, is_done, is_manager, least_of, least_told, notices_of, raise_result}
use Rattle.floors.specs.Worlds.{told_with, with_entry, with_floors, with_rise}
use Rattle.node_core.specs.Configs.{config_by}
use Rattle.floored.specs.Nodes.{BefallsRise, FlooredParts, FlooredRaises, FlooredStands, on_rise}
use Rattle.floored.specs.Told.{told_at}
use Rattle.floored.proofs.Raising.{done_up}
use Rattle.floored.proofs.Noticing.{notices_as}
use Rattle.network.specs.Networks.{NetworkParts}
use Rattle.floored.proofs.Replacing.{is_up_as}
use Rattle.floored.proofs.Seen.{is_up, is_down}
use Rattle.cluster.specs.declared.handing.Answered.{Answered}
use Rattle.cluster.specs.Clusters.{ClusterParts, NoticesParts, cluster_of, AreTold, ClusterStands, BefallsHeard}
use Rattle.cluster.specs.Clusters.{BefallsRaised, IsSameFloored, StayBut, HappensAs, notice_at, place_reached}
use Rattle.cluster.specs.Notices.{HasHeardAt, HasToldOwn, RaisesTo, RaisesToLeast, told_in}
use Rattle.cluster.proofs.Standing.{there, placed, found, named, floor_there, nodes_put, told_put, at_place, same_but, others_stay}
use Rattle.cluster.proofs.Standing.{all_stay, entry_apart, entry_here, none_there, told_within, unchanged, within}
use Rattle.cluster.proofs.Occurring.{occurs, no_fault, refused_before, comes_quiet}

-- ---- what a rise leaves in the machine

-- an acceptor's or a leader's rises to a place as to the least that it was told
rise_as : (who : NodeId) → is_manager who ≡ false → (floor : Option Place) (m : NodeState) (place : Place) (fault : Fault) → m.up ≡ true
    → on_rise who floor m place fault ≡ on_least floor m (Some place) fault
rise_as (R rm) other floor m place fault up = absurd (cc (other))
rise_as (A a) other floor m place fault up =
    ap (λ (b : Bool). if b then on_least floor m (Some place) fault else kept_rise floor m (Refused refusals.Down)) up
rise_as (L l) other floor m place fault up =
    ap (λ (b : Bool). if b then on_least floor m (Some place) fault else kept_rise floor m (Refused refusals.Down)) up

-- ---- who is told

-- what an answer of a rise tells
told_if : (answer : Answer) (done refused : List Notice) → answer ≡ Done → (if is_done answer then done else refused) ≡ done
told_if answer done refused is = ap (λ (a : Answer). if is_done a then done else refused) is

untold_if : (answer : Answer) (e : Refusal) (done refused : List Notice) → answer ≡ Refused e
    → (if is_done answer then done else refused) ≡ refused
untold_if answer e done refused is = ap (λ (a : Answer). if is_done a then done else refused) is

-- ---- events that reach no node

module _ (config : Config) (world : FlooredWorld) (old new : ClusterParts) (answered : Answered) (stood : ClusterStands config old world)
    (sizes_are : new.sizes ≡ old.sizes) (nodes_are : new.nodes ≡ old.nodes) where
  -- where the world has no such resource manager
  pub not_raised : (rm : ℕ) (place : Place)
      → floored_dispatch config world (with_floors (Raise rm place)) NoFault ≡ floored_answer world (Refused refusals.NoSuch)
      → BefallsRaised config old.nodes new.nodes (R rm) (node_at config world.machine (R rm)) NoFault
      → answered.answer ≡ Refused refusals.NoSuch → answered.now ≡ None → ClusterStands config new world
      → HappensAs config world (Raise rm place) old new answered
  not_raised rm place is befalls answer_is now_is stands =
      occurs config world (Raise rm place) old new answered stood (unchanged old new sizes_are nodes_are)
      (all_stay (place_reached config world (Raise rm place)) old.nodes new.nodes nodes_are) NoFault no_fault befalls
      (floored_answer world (Refused refusals.NoSuch)) is
      (comes_quiet config world new answered (Refused refusals.NoSuch) answer_is now_is stands)

  -- a notice was handed to none, or changed nothing there
  pub unheard : (n : ℕ) (answer : Answer)
      → floored_dispatch config world (with_floors (Hear n)) NoFault ≡ floored_answer world answer
      → BefallsHeard config world old.nodes new.nodes (notice_at world.notices n) NoFault
      → answered.answer ≡ answer → answered.now ≡ None → ClusterStands config new world
      → HappensAs config world (Hear n) old new answered
  unheard n answer is befalls answer_is now_is stands =
      occurs config world (Hear n) old new answered stood (unchanged old new sizes_are nodes_are)
      (all_stay (place_reached config world (Hear n)) old.nodes new.nodes nodes_are) NoFault no_fault befalls
      (floored_answer world answer) is (comes_quiet config world new answered answer answer_is now_is stands)

-- a notice by its number, which counts from 1
module _ (config : Config) (world : FlooredWorld) where
  pub heard_event : (n : ℕ) (notice : Notice) → notice_at world.notices n ≡ Some notice → (fault : Fault)
      → floored_dispatch config world (with_floors (Hear n)) fault ≡ hear_at config world fault notice
  heard_event zero notice has fault = absurd (cc (has))
  heard_event (suc n) notice has fault = ap (floored_if_found world (hear_at config world fault)) has

  pub unheard_event : (n : ℕ) → notice_at world.notices n ≡ None → (fault : Fault)
      → floored_dispatch config world (with_floors (Hear n)) fault ≡ floored_answer world (Refused refusals.NoSuch)
  unheard_event zero none fault = refl
  unheard_event (suc n) none fault = ap (floored_if_found world (hear_at config world fault)) none

-- where no node has changed, no fault was met
rests : (config : Config) (nodes : List FlooredParts) (who : NodeId) (o : Option NodeState) → BefallsRaised config nodes nodes who o NoFault
rests config nodes who None = refl
rests config nodes who (Some m) = λ at d h. (refl, refl)

-- ---- a node whose floor was to rise

module _ (config : Config) (world : FlooredWorld) (sizes : Sizes) (nodes : List FlooredParts) (network : NetworkParts)
    (notices : NoticesParts) (s : ClusterStands config (cluster_of sizes nodes network notices) world) (who : NodeId) (at : ℕ)
    (is : Some at ≡ place_of (config_by sizes []) who) (node new : FlooredParts) (read : node ≡ get_or nodes at node) where
  abbrev machine : World
  machine = world.machine

  abbrev before_it : ClusterParts
  before_it = cluster_of sizes nodes network notices

  own : (m : NodeState) × (slice_get machine.nodes at ≡ Some m) × FlooredStands config (get_or nodes at node) m
  own = there config world sizes nodes network notices s who at (sym is) node

  abbrev m : NodeState
  m = own.0

  stands : FlooredStands config node m
  stands = subst (λ (x : FlooredParts). FlooredStands config x m) (sym read) own.2

  node_is : node_at config machine who ≡ Some m
  node_is = found config world sizes nodes network notices s who at (sym is) m own.1

  who_is : node.node.who ≡ who
  who_is = ap (λ (x : FlooredParts). x.node.who) read ∙ named config world sizes nodes network notices s who at (sym is) node

  floor_was : node.floor ≡ world.floor who
  floor_was = ap (λ (x : FlooredParts). x.floor) read ∙ floor_there config world sizes nodes network notices s who at (sym is) node

  -- what came of it is a rise of the machine's, under a fault that is true
  record HasRisen (rise : Fault → Rise) (result : Result (Unit {0}) Refusal) : Type 0 where
    fault : Fault
    befalls : BefallsRise node.node.held new.node.held fault
    same : IsSameFloored node new
    floor_is : new.floor ≡ (rise fault).floor
    answer_is : restart_answer result ≡ (rise fault).answer
    now_stands : FlooredStands config new (rise fault).node

  raised_so : (place : Place) (result : Result (Unit {0}) Refusal) → RaisesTo place node new result
      → HasRisen (on_rise who (world.floor who) m place) result
  raised_so place result raises =
      let r : FlooredRaises config m place node new result = raises.raises config m stands in
      let rise_is : on_rise node.node.who node.floor m place r.fault ≡ on_rise who (world.floor who) m place r.fault =
      (λ i. on_rise (who_is i) (floor_was i) m place r.fault) in
      record {
        fault = r.fault;
        befalls = r.befalls;
        same = record { who_is = r.who_is; sizes_are = r.sizes_are; rows_are = r.rows_are; may_fail_is = raises.may_fail_is };
        floor_is = r.floor_is ∙ ap (λ (x : Rise). x.floor) rise_is;
        answer_is = r.answer_is ∙ ap (λ (x : Rise). x.answer) rise_is;
        now_stands = subst (λ (x : Rise). FlooredStands config new x.node) rise_is r.stands;
      }

  -- to the least that was told, if there is one
  least_so : is_manager who ≡ false → m.up ≡ true → (least : Option Place) (result : Result (Unit {0}) Refusal)
      → RaisesToLeast least node new result → HasRisen (on_least (world.floor who) m least) result
  least_so other up None result (same, done) = record {
    fault = NoFault;
    befalls =
        (ap (λ (x : FlooredParts). x.node.held.faults) same, ap (λ (x : FlooredParts). x.node.held.armed) same);
    same = record {
      who_is = ap (λ (x : FlooredParts). x.node.who) same;
      sizes_are = ap (λ (x : FlooredParts). x.node.sizes) same;
      rows_are = ap (λ (x : FlooredParts). x.node.rows) same;
      may_fail_is = ap (λ (x : FlooredParts). x.node.held.nature.may_fail) same;
    };
    floor_is = ap (λ (x : FlooredParts). x.floor) same ∙ floor_was;
    answer_is = ap restart_answer done;
    now_stands = subst (λ (x : FlooredParts). FlooredStands config x m) (sym same) stands;
  }
  least_so other up (Some place) result raises =
      let r : HasRisen (on_rise who (world.floor who) m place) result = raised_so place result raises in
      let rise_is : on_rise who (world.floor who) m place r.fault ≡ on_least (world.floor who) m (Some place) r.fault =
      rise_as who other (world.floor who) m place r.fault up in
      record {
        fault = r.fault;
        befalls = r.befalls;
        same = r.same;
        floor_is = r.floor_is ∙ ap (λ (x : Rise). x.floor) rise_is;
        answer_is = r.answer_is ∙ ap (λ (x : Rise). x.answer) rise_is;
        now_stands = subst (λ (x : Rise). FlooredStands config new x.node) rise_is r.now_stands;
      }

  module _ (rise : Fault → Rise) (result : Result (Unit {0}) Refusal) (r : HasRisen rise result) where
    abbrev left : Rise
    left = rise r.fault

    not_before : r.fault ≡ NoMemoryBefore → ⊥
    not_before e = subst (λ (f : Fault). BefallsRise node.node.held new.node.held f) e r.befalls

    befallen : (o : Option NodeState) → o ≡ Some m → BefallsRaised config nodes (set nodes at new) who o r.fault
    befallen None e = absurd (cc (e))
    befallen (Some x) e =
        at_place config world sizes nodes network notices s who at (sym is)
        (λ (before after : FlooredParts). BefallsRise before.node.held after.node.held r.fault) node new
        (subst (λ (x : FlooredParts). BefallsRise x.node.held new.node.held r.fault) read r.befalls)

    others : StayBut (place_of config who) nodes (set nodes at new)
    others = others_stay (place_of config who) at nodes new (placed config world sizes nodes network notices s who at (sym is))

    same_here : IsSameFloored (get_or nodes at node) new
    same_here = subst (λ (x : FlooredParts). IsSameFloored x new) read r.same

    -- the cluster stands for the world in which that floor rose
    risen_stands : (after : NoticesParts) (told : NodeId → ℕ → Option Place) (all : List Notice) → AreTold config after.told told
        → after.all ≡ all
        → ClusterStands config (cluster_of sizes (set nodes at new) network after)
        (record (with_rise config world who left) { told = told; notices = all })
    risen_stands after told all told_are notices_are = record {
      sizes_are = s.sizes_are;
      nodes_are =
          nodes_put config world sizes nodes network notices s who at (sym is) node new left.node (with_entry world.floor who left.floor)
          same_here.who_is r.now_stands (entry_here world.floor who left.floor who refl ∙ sym r.floor_is)
          (λ n apart. entry_apart world.floor who left.floor n apart);
      net_is = s.net_is;
      told_are = told_are;
      notices_are = notices_are;
    }

  -- ---- a notice is heard

  module _ (from : ℕ) (place : Place) (other : is_manager who ≡ false) (n : ℕ)
      (kept : Some (record { manager = from; receiver = who; place = place }) ≡ notice_at notices.all n)
      (seen : FlooredParts) (seen_is : seen ≡ get_or nodes at seen) (not_down : is_none seen.node.role ≡ false)
      (after : NoticesParts) (least : Option Place)
      (heard : HasHeardAt at (record { manager = from; receiver = who; place = place }) notices after least) where
    abbrev notice : Notice
    notice = record { manager = from; receiver = who; place = place }

    has : notice_at world.notices n ≡ Some notice
    has = ap (λ (ns : List Notice). notice_at ns n) (sym s.notices_are) ∙ sym kept

    seen_there : seen ≡ node
    seen_there =
        seen_is ∙ get_or_default nodes at seen node (within config world sizes nodes network notices s who at (sym is)) ∙ sym read

    m_up : m.up ≡ true
    m_up =
        sym (is_up_as config node m stands)
        ∙ is_up node.node.role (sym (ap (λ (x : FlooredParts). is_none x.node.role) seen_there) ∙ not_down)

    abbrev told : ℕ → Option Place
    told = told_with (world.told who) notice

    told_count : length (told_in notices at) ≡ config.managers
    told_count = s.told_are.each_count at [] (told_within config world sizes nodes network notices s who at (sym is))

    list_count : length heard.list ≡ config.managers
    list_count = heard.heard.len ∙ told_count

    list_told : (rm : ℕ) → rm < config.managers → told_at heard.list rm ≡ told rm
    list_told rm few =
        let was : told_at (told_in notices at) rm ≡ world.told who rm =
        s.told_are.told_are who at rm [] (placed config world sizes nodes network notices s who at (sym is)) few in
        heard.heard.told_are rm (omega (arith, few, told_count))
        ∙ ap (λ (floor : Option Place). told_with (λ (k : ℕ). floor) notice rm) was

    least_as : least ≡ least_told config told
    least_as = heard.least_is ∙ ap least_of (fill_by_all told heard.list config.managers None list_count list_told)

    after_told : AreTold config after.told (with_entry world.told who told)
    after_told =
        subst (λ (x : NoticesParts). AreTold config x.told (with_entry world.told who told)) (sym heard.new_is)
        (told_put config world sizes nodes network notices s who at (sym is) heard.list told list_count list_told)

    after_all : after.all ≡ world.notices
    after_all = ap (λ (x : NoticesParts). x.all) heard.new_is ∙ s.notices_are

    abbrev rising : Fault → Rise
    rising = on_least (world.floor who) m (least_told config told)

    -- what comes of it
    abbrev heard_by : Fault → FlooredResult
    heard_by fault =
        floored_answer (record (with_rise config world who (rising fault)) { told = with_entry world.told who told }) (rising fault).answer

    heard_so : (fault : Fault) → floored_dispatch config world (with_floors (Hear n)) fault ≡ heard_by fault
    heard_so fault =
        heard_event config world n notice has fault
        ∙ ap (λ (b : Bool). if b then floored_answer world Done
        else floored_if_found world (hear_result config world notice fault) (node_at config machine who)) other
        ∙ ap (floored_if_found world (hear_result config world notice fault)) node_is
        ∙ ap (λ (b : Bool). if b then heard_by fault else floored_answer world (Refused refusals.Down)) m_up

    -- a notice
    pub heard_made : (result : Result (Unit {0}) Refusal) → RaisesToLeast least node new result → (answered : Answered)
        → answered.answer ≡ restart_answer result → answered.now ≡ None
        → HappensAs config world (Hear n) before_it (cluster_of sizes (set nodes at new) network after) answered
    heard_made result raises answered answer_is now_is =
        let r : HasRisen rising result =
        subst (λ (l : Option Place). HasRisen (on_least (world.floor who) m l) result) least_as (least_so other m_up least result raises) in
        occurs config world (Hear n) before_it (cluster_of sizes (set nodes at new) network after) answered s
        (same_but sizes nodes network network notices after at node new (same_here rising result r))
        (subst (λ (o : Option Notice). StayBut (option_and_then (place_of config) (option_map (λ (x : Notice). x.receiver) o)) nodes
        (set nodes at new)) (sym has) (others rising result r)) r.fault (not_before rising result r)
        (subst (λ (o : Option Notice). BefallsHeard config world nodes (set nodes at new) o r.fault) (sym has)
        (befallen rising result r (node_at config machine who) node_is))
        (heard_by r.fault) (heard_so r.fault)
        (record {
          answer_is = answer_is ∙ r.answer_is;
          now_is = now_is;
          stands = risen_stands rising result r after (with_entry world.told who told) world.notices after_told after_all;
        })

-- ---- a resource manager raises its floor

module _ (config : Config) (world : FlooredWorld) (sizes : Sizes) (nodes : List FlooredParts) (network : NetworkParts)
    (notices : NoticesParts) (s : ClusterStands config (cluster_of sizes nodes network notices) world) (rm at : ℕ)
    (is : Some at ≡ place_of (config_by sizes []) (R rm)) (node new : FlooredParts) (read : node ≡ get_or nodes at node)
    (floor : Place) (result : Result (Unit {0}) Refusal) (raises : RaisesTo floor node new result) where
  abbrev state : NodeState
  state = m config world sizes nodes network notices s (R rm) at is node new read

  abbrev raising : Fault → Rise
  raising = on_raise (world.floor (R rm)) state floor

  risen_so : HasRisen config world sizes nodes network notices s (R rm) at is node new read raising result
  risen_so = raised_so config world sizes nodes network notices s (R rm) at is node new read floor result raises

  abbrev rise : Rise
  rise = raising risen_so.fault

  -- what it tells
  abbrev tells : List Notice
  tells = if is_done rise.answer then notices_of config rm rise.floor else []

  -- it is up where that was done
  up_then : rise.answer ≡ Done → is_some new.node.role ≡ true
  up_then done =
      is_up_as config new rise.node risen_so.now_stands ∙ done_up (world.floor (R rm)) state floor risen_so.fault done

  module _ (room after : NoticesParts) (room_told : room.told ≡ notices.told) (room_all : room.all ≡ notices.all)
      (ok : OnOk result (HasToldOwn sizes rm new room after)) (err : OnErr result (after ≡ room)) where
    were_all : room.all ≡ world.notices
    were_all = room_all ∙ s.notices_are

    -- the notices are those before, and those that it tells
    told_by : (r : Result (Unit {0}) Refusal) → restart_answer r ≡ rise.answer → OnOk r (HasToldOwn sizes rm new room after)
        → OnErr r (after ≡ room) → (after.told ≡ notices.told) × (after.all ≡ world.notices ++ tells)
    told_by (Ok done) answer_is tale none =
        let done : rise.answer ≡ Done = sym answer_is in
        let floor_is : tale.floor ≡ rise.floor = tale.own (up_then done) ∙ risen_so.floor_is in
        let told : notices_of (config_by sizes []) rm tale.floor ≡ tells =
        notices_as config sizes s.sizes_are rm tale.floor ∙ ap (notices_of config rm) floor_is
        ∙ sym (told_if rise.answer (notices_of config rm rise.floor) [] done) in (
          tale.told.told_are ∙ room_told,
          tale.told.all_are ∙ (λ i. were_all i ++ told i),
        )
    told_by (Err e) answer_is tale none =
        let untold : tells ≡ [] = untold_if rise.answer e (notices_of config rm rise.floor) [] (sym answer_is) in (
          ap (λ (x : NoticesParts). x.told) none ∙ room_told,
          ap (λ (x : NoticesParts). x.all) none ∙ were_all ∙ sym (ap (λ (ns : List Notice). world.notices ++ ns) untold
              ∙ append-nil world.notices),
        )

    told_now : (after.told ≡ notices.told) × (after.all ≡ world.notices ++ tells)
    told_now = told_by result risen_so.answer_is ok err

    abbrev after_it : ClusterParts
    after_it = cluster_of sizes (set nodes at new) network after

    -- a floor that was to rise
    pub raised_made : (answered : Answered) → answered.answer ≡ restart_answer result → answered.now ≡ None
        → HappensAs config world (Raise rm floor) (cluster_of sizes nodes network notices) after_it answered
    raised_made answered answer_is now_is =
        let there = node_is config world sizes nodes network notices s (R rm) at is node new read in
        let told_are : AreTold config after.told world.told =
        subst (λ (t : List (List (Option Place))). AreTold config t world.told) (sym told_now.0) s.told_are in
        occurs config world (Raise rm floor) (cluster_of sizes nodes network notices) after_it answered s
        (same_but sizes nodes network network notices after at node new
        (same_here config world sizes nodes network notices s (R rm) at is node new read raising result risen_so))
        (others config world sizes nodes network notices s (R rm) at is node new read raising result risen_so) risen_so.fault
        (not_before config world sizes nodes network notices s (R rm) at is node new read raising result risen_so)
        (befallen config world sizes nodes network notices s (R rm) at is node new read raising result risen_so
        (node_at config world.machine (R rm)) there)
        (raise_result config world rm rise)
        (ap (floored_if_found world (λ (x : NodeState).
        raise_result config world rm (on_raise (world.floor (R rm)) x floor risen_so.fault))) there)
        (record {
          answer_is = answer_is ∙ risen_so.answer_is;
          now_is = now_is;
          stands =
              risen_stands config world sizes nodes network notices s (R rm) at is node new read raising result risen_so after world.told
              (world.notices ++ tells) told_are told_now.1;
        })

-- ---- events that reach none of the nodes of a cluster

module _ (config : Config) (world : FlooredWorld) (sizes : Sizes) (nodes : List FlooredParts) (network : NetworkParts)
    (notices : NoticesParts) (s : ClusterStands config (cluster_of sizes nodes network notices) world) (answered : Answered)
    (now_is : answered.now ≡ None) where
  abbrev kept : ClusterParts
  kept = cluster_of sizes nodes network notices

  -- there is no such resource manager
  pub raised_nowhere : (rm : ℕ) (floor : Place) → None ≡ place_of (config_by sizes []) (R rm) → answered.answer ≡ Refused refusals.NoSuch
      → HappensAs config world (Raise rm floor) kept kept answered
  raised_nowhere rm floor none answer_is =
      let absent = none_there config world sizes nodes network notices s (R rm) (sym none) in
      not_raised config world kept kept answered s refl refl rm floor (ap (floored_if_found world _) absent)
      (rests config nodes (R rm) (node_at config world.machine (R rm))) answer_is now_is s

  rests_heard : (o : Option Notice) → BefallsHeard config world nodes nodes o NoFault
  rests_heard None = refl
  rests_heard (Some notice) = rests config nodes notice.receiver (node_at config world.machine notice.receiver)

  -- no notice has the number
  pub heard_none : (n : ℕ) → None ≡ notice_at notices.all n → answered.answer ≡ Refused refusals.NoSuch
      → HappensAs config world (Hear n) kept kept answered
  heard_none n none answer_is =
      let absent : notice_at world.notices n ≡ None = ap (λ (ns : List Notice). notice_at ns n) (sym s.notices_are) ∙ sym none in
      unheard config world kept kept answered s refl refl n (Refused refusals.NoSuch) (unheard_event config world n absent NoFault)
      (rests_heard (notice_at world.notices n)) answer_is now_is s

  -- one that has it is for a node that takes none, isn't there, or is down
  module _ (n : ℕ) (notice : Notice) (has : Some notice ≡ notice_at notices.all n) where
    there_is : notice_at world.notices n ≡ Some notice
    there_is = ap (λ (ns : List Notice). notice_at ns n) (sym s.notices_are) ∙ sym has

    heard_as : (answer : Answer) → hear_at config world NoFault notice ≡ floored_answer world answer → answered.answer ≡ answer
        → HappensAs config world (Hear n) kept kept answered
    heard_as answer is answer_is =
        unheard config world kept kept answered s refl refl n answer (heard_event config world n notice there_is NoFault ∙ is)
        (rests_heard (notice_at world.notices n)) answer_is now_is s

    -- a notice to a resource manager
    pub heard_manager : is_manager notice.receiver ≡ true → answered.answer ≡ Done → HappensAs config world (Hear n) kept kept answered
    heard_manager manager =
        heard_as Done (ap (λ (b : Bool). if b then floored_answer world Done
        else floored_if_found world (hear_result config world notice NoFault) (node_at config world.machine notice.receiver)) manager)

    module _ (other : is_manager notice.receiver ≡ false) where
      by_node : hear_at config world NoFault notice
          ≡ floored_if_found world (hear_result config world notice NoFault) (node_at config world.machine notice.receiver)
      by_node = ap (λ (b : Bool). if b then floored_answer world Done
          else floored_if_found world (hear_result config world notice NoFault) (node_at config world.machine notice.receiver)) other

      -- to a node that isn't there
      pub heard_nowhere : None ≡ place_of (config_by sizes []) notice.receiver → answered.answer ≡ Refused refusals.NoSuch
          → HappensAs config world (Hear n) kept kept answered
      heard_nowhere none =
          heard_as (Refused refusals.NoSuch)
          (by_node ∙ ap (floored_if_found world (hear_result config world notice NoFault))
          (none_there config world sizes nodes network notices s notice.receiver (sym none)))

      -- and to one that is down
      pub heard_down : (at : ℕ) → Some at ≡ place_of (config_by sizes []) notice.receiver → (node : FlooredParts)
          → node ≡ get_or nodes at node → is_none node.node.role ≡ true → answered.answer ≡ Refused refusals.Down
          → HappensAs config world (Hear n) kept kept answered
      heard_down at is node read down =
          let own = there config world sizes nodes network notices s notice.receiver at (sym is) node in
          let stands : FlooredStands config node own.0 = subst (λ (x : FlooredParts). FlooredStands config x own.0) (sym read) own.2 in
          let off : own.0.up ≡ false = sym (is_up_as config node own.0 stands) ∙ is_down node.node.role down in
          heard_as (Refused refusals.Down)
          (by_node ∙ ap (floored_if_found world (hear_result config world notice NoFault))
          (found config world sizes nodes network notices s notice.receiver at (sym is) own.0 own.1)
          ∙ ap (λ (b : Bool). if b then floored_answer (record (with_rise config world notice.receiver
          (on_least (world.floor notice.receiver) own.0 (least_told config (told_with (world.told notice.receiver) notice)) NoFault))
          { told = with_entry world.told notice.receiver (told_with (world.told notice.receiver) notice) })
          (on_least (world.floor notice.receiver) own.0 (least_told config (told_with (world.told notice.receiver) notice)) NoFault).answer
          else floored_answer world (Refused refusals.Down)) off)

-- room was made for notices, or not; what was told stays
pub no_notices : (sizes : Sizes) (nodes : List FlooredParts) (network : NetworkParts) (before after : NoticesParts)
    → after.told ≡ before.told → after.all ≡ before.all → (rm : ℕ) (floor : Place) (answered : Answered)
    → answered.answer ≡ Refused refusals.NoMemory → answered.now ≡ None → (config : Config) (world : FlooredWorld)
    → ClusterStands config (cluster_of sizes nodes network before) world
    → HappensAs config world (Raise rm floor) (cluster_of sizes nodes network before) (cluster_of sizes nodes network after) answered
no_notices sizes nodes network before after told all rm floor answered answer_is now_is config world s =
    refused_before config world (Raise rm floor) (cluster_of sizes nodes network before) (cluster_of sizes nodes network after) answered s
    refl refl answer_is now_is
    (record {
      sizes_are = s.sizes_are;
      nodes_are = s.nodes_are;
      net_is = s.net_is;
      told_are = subst (λ (t : List (List (Option Place))). AreTold config t world.told) (sym told) s.told_are;
      notices_are = all ∙ s.notices_are;
    })
