-- A blank node stands in the place of a lost one: what comes of it is what comes of it in a world with floors.
-- Needed by `replace`.
use Rattle.std.proofs.Common.{◌≡◌, ◌∙◌, ℕ, Bool, true, false, not, if◌then◌else◌, List, [], get_or, set, Option, Some, None}
use Rattle.std.proofs.Common.{refl, sym, ap, subst}
use Rattle.std.specs.Prelude.{slice_get, Result, Ok, Err}
use Rattle.std.proofs.lemmas.Bool.{cond_both}
use Rattle.xid.specs.Places.{Place}
use Rattle.xid.specs.declared.refusals.Refusal.{Refusal}
use Rattle.xid.specs.declared.refusals.Refusal.TheVariants as refusals
use Rattle.protocol.specs.declared.answers.Answer.TheVariants.{Done, Refused}
use Rattle.protocol.specs.declared.events.Event.TheVariants.{Replace}
use Rattle.protocol.specs.declared.nodes.NodeId.{NodeId}
use Rattle.protocol.specs.Effects.{Config}
use Rattle.protocol.specs.Nodes.{NodeState, Fault, Outcome, NoFault, NoMemoryAt, RecordFails, restart_outcome, down_node}
use Rattle.protocol.specs.Nodes.{all_play, answer_outcome, empty_memory}
use Rattle.protocol.specs.Worlds.{World, node_at, place as place_of}
use Rattle.node_core.specs.declared.config.Sizes.{Sizes}
use Rattle.node_core.specs.Opening.{restart_answer}
use Rattle.floors.specs.Nodes.{Rise, is_unread, kept_rise, may_replace, not_put_in, on_replace, put_in}
use Rattle.floors.specs.Worlds.{FlooredResult, FlooredWorld, floored_answer, floored_dispatch, floored_if_found, is_manager, is_put}
use Rattle.floors.specs.Worlds.{nothing_told, replace_result, with_entry, with_floors, with_rise, with_told_lost}
use Rattle.node_core.specs.Configs.{config_by}
use Rattle.floored.specs.Nodes.{BefallsReplace, FlooredParts, FlooredReplaces, FlooredStands}
use Rattle.network.specs.Networks.{NetworkParts}
use Rattle.cluster.specs.declared.handing.Answered.{Answered}
use Rattle.cluster.specs.Clusters.{ClusterParts, NoticesParts, cluster_of, ClusterStands, ComesTo, BefallsReplaced}
use Rattle.cluster.specs.Clusters.{IsSameFloored, StayBut, HappensAs, place_reached}
use Rattle.cluster.specs.Notices.{forgotten_at, is_in_use, replaced_at}
use Rattle.cluster.proofs.Standing.{there, placed, found, named, floor_there, node_kept, nodes_put, at_place, same_but, others_stay}
use Rattle.cluster.proofs.Standing.{all_stay, entry_apart, entry_here, none_there, unchanged}
use Rattle.cluster.proofs.Renewed.{none_told}
use Rattle.cluster.proofs.Occurring.{occurs, no_fault, comes_quiet}

-- ---- answers

-- no restart is answered that a node is in use
not_in_use : (config : Config) (who : NodeId) (m : NodeState) (fault : Fault)
    → (restart_outcome config who m fault).answer ≡ Refused refusals.InUse → ⊥
not_in_use config who m NoMemoryAt e = absurd (cc (e))
not_in_use config who m (RecordFails whole) e = absurd (cc (e))
not_in_use config who m fault e =
    cond_both (all_play config who [] m.facts)
    (answer_outcome (record { facts = m.facts; up = true; tear = m.tear; memory = empty_memory }) Done)
    (answer_outcome (down_node m) (Refused refusals.Damaged)) (λ (o : Outcome). o.answer ≡ Refused refusals.InUse → ⊥)
    (λ plays is. absurd (cc (is))) (λ stops is. absurd (cc (is))) e

free_of_use : (result : Result (Unit {0}) Refusal) → (restart_answer result ≡ Refused refusals.InUse → ⊥) → is_in_use result ≡ false
free_of_use (Err refusals.InUse) other = absurd (other refl)
free_of_use (Err e) other = refl
free_of_use (Ok done) other = refl

in_use_is : (result : Result (Unit {0}) Refusal) → restart_answer result ≡ Refused refusals.InUse → is_in_use result ≡ true
in_use_is (Ok done) is = absurd (cc (is))
in_use_is (Err e) is =
    let same : e ≡ refusals.InUse = cc (is) in ap (λ (r : Refusal). is_in_use (Err r)) same

-- ---- a blank node was to stand in

module _ (config : Config) (world : FlooredWorld) (sizes : Sizes) (nodes : List FlooredParts) (network : NetworkParts)
    (notices : NoticesParts) (s : ClusterStands config (cluster_of sizes nodes network notices) world) (who : NodeId) (at : ℕ)
    (is : Some at ≡ place_of (config_by sizes []) who) (node new : FlooredParts) (read : node ≡ get_or nodes at node)
    (other : is_manager who ≡ false) (floor : Place) (result : Result (Unit {0}) Refusal)
    (replaces : is_manager node.node.who ≡ false → (config : Config) (m : NodeState) → FlooredStands config node m
    → FlooredReplaces config m floor node new result) where
  abbrev machine : World
  machine = world.machine

  own : (m : NodeState) × (slice_get machine.nodes at ≡ Some m) × FlooredStands config (get_or nodes at node) m
  own = there config world sizes nodes network notices s who at (sym is) node

  abbrev m : NodeState
  m = own.0

  node_is : node_at config machine who ≡ Some m
  node_is = found config world sizes nodes network notices s who at (sym is) m own.1

  who_is : node.node.who ≡ who
  who_is = ap (λ (x : FlooredParts). x.node.who) read ∙ named config world sizes nodes network notices s who at (sym is) node

  floor_was : node.floor ≡ world.floor who
  floor_was = ap (λ (x : FlooredParts). x.floor) read ∙ floor_there config world sizes nodes network notices s who at (sym is) node

  replaced : FlooredReplaces config m floor node new result
  replaced =
      replaces (ap is_manager who_is ∙ other) config m (subst (λ (x : FlooredParts). FlooredStands config x m) (sym read) own.2)

  abbrev fault : Fault
  fault = replaced.fault

  abbrev rise : Rise
  rise = on_replace config who (world.floor who) m floor fault

  rise_is : on_replace config node.node.who node.floor m floor fault ≡ rise
  rise_is = (λ i. on_replace config (who_is i) (floor_was i) m floor fault)

  answer_so : restart_answer result ≡ rise.answer
  answer_so = replaced.answer_is ∙ ap (λ (x : Rise). x.answer) rise_is

  floor_so : new.floor ≡ rise.floor
  floor_so = replaced.floor_is ∙ ap (λ (x : Rise). x.floor) rise_is

  now_stands : FlooredStands config new rise.node
  now_stands = subst (λ (x : Rise). FlooredStands config new x.node) rise_is replaced.stands

  same_here : IsSameFloored (get_or nodes at node) new
  same_here = subst (λ (x : FlooredParts). IsSameFloored x new) read (record {
    who_is = replaced.who_is;
    sizes_are = replaced.sizes_are;
    rows_are = replaced.rows_are;
    may_fail_is = replaced.may_fail_is;
  })

  others : StayBut (place_of config who) nodes (set nodes at new)
  others = others_stay (place_of config who) at nodes new (placed config world sizes nodes network notices s who at (sym is))

  befallen : (o : Option NodeState) → o ≡ Some m → BefallsReplaced config nodes (set nodes at new) who o fault
  befallen None e = absurd (cc (e))
  befallen (Some x) e =
      at_place config world sizes nodes network notices s who at (sym is)
      (λ (before after : FlooredParts). BefallsReplace before.node.held after.node.held fault) node new
      (subst (λ (x : FlooredParts). BefallsReplace x.node.held new.node.held fault) read replaced.befalls)

  abbrev before_it : ClusterParts
  before_it = cluster_of sizes nodes network notices

  abbrev after_it : NoticesParts → ClusterParts
  after_it left = cluster_of sizes (set nodes at new) network left

  -- what comes of it in the world, by whether the lost one may be replaced
  abbrev put : FlooredResult
  put =
      let put_there = put_in config who (world.floor who) m floor fault in
      floored_answer (record (with_rise config world who put_there) {
        told = with_entry world.told who nothing_told;
        is_replaced = if is_put fault then with_entry world.is_replaced who true else world.is_replaced;
      }) put_there.answer

  abbrev unput : FlooredResult
  unput = floored_answer (with_told_lost world who (is_unread m fault)) (not_put_in config who m fault)

  comes_so : (t : Bool) → may_replace (world.floor who) m floor ≡ t
      → floored_dispatch config world (with_floors (Replace who floor)) fault ≡ (if t then put else unput)
  comes_so t may =
      ap (λ (b : Bool). if b then floored_answer world (Refused refusals.NoSuch)
      else floored_if_found world (replace_result config world who floor fault) (node_at config machine who)) other
      ∙ ap (floored_if_found world (replace_result config world who floor fault)) node_is
      ∙ ap (λ (b : Bool). if b then put else unput) may

  -- the cluster stands for the world in which it was put there
  put_stands : rise ≡ put_in config who (world.floor who) m floor fault
      → ClusterStands config (after_it (forgotten_at at notices)) put.world
  put_stands risen = record {
    sizes_are = s.sizes_are;
    nodes_are =
        let put_there = put_in config who (world.floor who) m floor fault in
        nodes_put config world sizes nodes network notices s who at (sym is) node new put_there.node
        (with_entry world.floor who put_there.floor) same_here.who_is
        (subst (λ (x : Rise). FlooredStands config new x.node) risen now_stands)
        (entry_here world.floor who put_there.floor who refl ∙ sym (floor_so ∙ ap (λ (x : Rise). x.floor) risen))
        (λ n apart. entry_apart world.floor who put_there.floor n apart);
    net_is = s.net_is;
    told_are = none_told config world sizes nodes network notices s who at is node new read;
    notices_are = s.notices_are;
  }

  -- or for the one in which it wasn't
  module _ (kept : rise ≡ kept_rise (world.floor who) m (not_put_in config who m fault)) where
    still : ClusterStands config (after_it notices) world
    still =
        node_kept config world sizes nodes network notices s who at (sym is) node new m own.1 same_here.who_is
        (floor_so ∙ ap (λ (x : Rise). x.floor) kept ∙ sym (floor_there config world sizes nodes network notices s who at (sym is) node))
        (subst (λ (x : Rise). FlooredStands config new x.node) kept now_stands)

    unput_stands : (unread : Bool) → is_in_use result ≡ not unread
        → ClusterStands config (after_it (replaced_at at result notices)) (with_told_lost world who unread)
    unput_stands true free =
        subst (λ (b : Bool). ClusterStands config (after_it (if b then notices else forgotten_at at notices))
        (with_told_lost world who true)) (sym free)
        (record {
          sizes_are = still.sizes_are;
          nodes_are = still.nodes_are;
          net_is = still.net_is;
          told_are = none_told config world sizes nodes network notices s who at is node new read;
          notices_are = still.notices_are;
        })
    unput_stands false used =
        subst (λ (b : Bool). ClusterStands config (after_it (if b then notices else forgotten_at at notices)) world) (sym used) still

    -- it is in use where that could be told
    used_by : (unread : Bool) → is_unread m fault ≡ unread → is_in_use result ≡ not unread
    used_by true e =
        free_of_use result (λ in_use.
        not_in_use config who m fault (sym (answer_so ∙ ap (λ (x : Rise). x.answer) kept
        ∙ ap (λ (b : Bool). if b then (restart_outcome config who m fault).answer else Refused refusals.InUse) e) ∙ in_use))
    used_by false e =
        in_use_is result (answer_so ∙ ap (λ (x : Rise). x.answer) kept
        ∙ ap (λ (b : Bool). if b then (restart_outcome config who m fault).answer else Refused refusals.InUse) e)

  module _ (left : NoticesParts) (left_is : left ≡ replaced_at at result notices) (answered : Answered)
      (answer_is : answered.answer ≡ restart_answer result) (now_is : answered.now ≡ None) where
    happened : (made : FlooredResult) → floored_dispatch config world (with_floors (Replace who floor)) fault ≡ made
        → ComesTo config (after_it (replaced_at at result notices)) answered made
        → HappensAs config world (Replace who floor) before_it (after_it left) answered
    happened made is_made comes =
        subst (λ (n : NoticesParts). HappensAs config world (Replace who floor) before_it (after_it n) answered) (sym left_is)
        (occurs config world (Replace who floor) before_it (after_it (replaced_at at result notices)) answered s
        (same_but sizes nodes network network notices (replaced_at at result notices) at node new same_here) others fault
        (λ e. subst (λ (f : Fault). BefallsReplace node.node.held new.node.held f) e replaced.befalls)
        (befallen (node_at config machine who) node_is) made is_made comes)

    replaced_by : (t : Bool) → may_replace (world.floor who) m floor ≡ t
        → HappensAs config world (Replace who floor) before_it (after_it left) answered
    replaced_by true may =
        let risen : rise ≡ put_in config who (world.floor who) m floor fault =
        ap (λ (b : Bool). if b then put_in config who (world.floor who) m floor fault
        else kept_rise (world.floor who) m (not_put_in config who m fault)) may in
        let answer_put : restart_answer result ≡ (restart_outcome config who m fault).answer =
        answer_so ∙ ap (λ (x : Rise). x.answer) risen in
        let free : is_in_use result ≡ false =
        free_of_use result (λ in_use. not_in_use config who m fault (sym answer_put ∙ in_use)) in
        happened put (comes_so true may)
        (record {
          answer_is = answer_is ∙ answer_put;
          now_is = now_is;
          stands =
              subst (λ (b : Bool). ClusterStands config (after_it (if b then notices else forgotten_at at notices)) put.world)
              (sym free) (put_stands risen);
        })
    replaced_by false may =
        let kept : rise ≡ kept_rise (world.floor who) m (not_put_in config who m fault) =
        ap (λ (b : Bool). if b then put_in config who (world.floor who) m floor fault
        else kept_rise (world.floor who) m (not_put_in config who m fault)) may in
        happened unput (comes_so false may)
        (record {
          answer_is = answer_is ∙ answer_so ∙ ap (λ (x : Rise). x.answer) kept;
          now_is = now_is;
          stands = unput_stands kept (is_unread m fault) (used_by kept (is_unread m fault) refl);
        })

    -- a replacement
    pub replaced_made : HappensAs config world (Replace who floor) before_it (after_it left) answered
    replaced_made = replaced_by (may_replace (world.floor who) m floor) refl

-- ---- events that reach none of the nodes of a cluster

-- where no node has changed, no fault was met
rests : (config : Config) (nodes : List FlooredParts) (who : NodeId) (o : Option NodeState)
    → BefallsReplaced config nodes nodes who o NoFault
rests config nodes who None = refl
rests config nodes who (Some m) = λ at d h. (refl, refl)

module _ (config : Config) (world : FlooredWorld) (sizes : Sizes) (nodes : List FlooredParts) (network : NetworkParts)
    (notices : NoticesParts) (s : ClusterStands config (cluster_of sizes nodes network notices) world) (answered : Answered)
    (now_is : answered.now ≡ None) (who : NodeId) (floor : Place) (answer_is : answered.answer ≡ Refused refusals.NoSuch) where
  abbrev unmoved : ClusterParts
  unmoved = cluster_of sizes nodes network notices

  not_replaced : floored_dispatch config world (with_floors (Replace who floor)) NoFault ≡ floored_answer world (Refused refusals.NoSuch)
      → HappensAs config world (Replace who floor) unmoved unmoved answered
  not_replaced is =
      occurs config world (Replace who floor) unmoved unmoved answered s (unchanged unmoved unmoved refl refl)
      (all_stay (place_reached config world (Replace who floor)) nodes nodes refl) NoFault no_fault
      (rests config nodes who (node_at config world.machine who)) (floored_answer world (Refused refusals.NoSuch)) is
      (comes_quiet config world unmoved answered (Refused refusals.NoSuch) answer_is now_is s)

  abbrev by_kind : Bool → FlooredResult
  by_kind manager =
      if manager then floored_answer world (Refused refusals.NoSuch)
      else floored_if_found world (replace_result config world who floor NoFault) (node_at config world.machine who)

  -- a resource manager's table is its own
  pub replaced_manager : is_manager who ≡ true → HappensAs config world (Replace who floor) unmoved unmoved answered
  replaced_manager manager = not_replaced (ap by_kind manager)

  -- there is no such node
  pub replaced_nowhere : is_manager who ≡ false → None ≡ place_of (config_by sizes []) who
      → HappensAs config world (Replace who floor) unmoved unmoved answered
  replaced_nowhere other none =
      not_replaced (ap by_kind other
      ∙ ap (floored_if_found world (replace_result config world who floor NoFault))
      (none_there config world sizes nodes network notices s who (sym none)))
