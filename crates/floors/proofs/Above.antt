-- What is prepared, and every branch, is below no floor of a resource manager; and no floor of a node that wasn't replaced is above one of
-- a resource manager.
use Rattle.std.proofs.Common.{◌≡◌, inl, inr, ◌∙◌, ℕ, ◌+◌, ◌<◌, Bool, true, false, not, ◌==◌, if◌then◌else◌}
use Rattle.std.proofs.Common.{List, [], Option, Some, None, refl, sym, ap, subst, nat_lt, arith}
use Rattle.std.specs.Prelude.{slice_get, map, length}
use Rattle.std.specs.List.{list_all, range_with_len}
use Rattle.std.specs.Option.{option_and_then}
use Rattle.std.proofs.lemmas.Bool.{cond_both, and_parts, not-true, ltb-true, eqb-true}
use Rattle.xid.specs.Transactions.{TxParts}
use Rattle.ballot.specs.Greatest.{IsIn}
use Rattle.wire.specs.Decoding.{spells_message}
use Rattle.wire.specs.Grammar.{spelling}
use Rattle.xid.specs.declared.refusals.Refusal.TheVariants.{NoSuch, Forged, Down}
use Rattle.stable_record.specs.declared.fact.FactKind.TheVariants as stored
use Rattle.protocol.specs.Basics.{Fact}
use Rattle.protocol.specs.declared.states.View.TheVariants as views
use Rattle.safety.specs.Vocabulary.{NodeId, A, L, R, Done, Refused, Event, Ask, Deliver, Lose, Cut, Noise, Tear, Restart, Compact}
use Rattle.safety.specs.Runs.{views_in}
use Rattle.safety.specs.Standing.{facts_of}
use Rattle.safety.proofs.World.Growth.{same_node}
use Rattle.safety.proofs.World.NodePlaces.{node_there, node_elsewhere, opening_node}
use Rattle.protocol.specs.Effects.{Config}
use Rattle.protocol.specs.Facts.{Bound, view, is_prepared_view, branch_bound_by, bound_branches}
use Rattle.protocol.specs.Managers.{Branch}
use Rattle.protocol.specs.Nodes.{NodeState, new_node, Input, Asked, Received, ReceivedNoise, Fault, NoMemoryBefore}
use Rattle.protocol.specs.Nodes.{node_step, restart_outcome, compact_outcome, NoFault, NoMemoryAt, RecordFails}
use Rattle.protocol.specs.Worlds.{World, StepResult, answer_result, if_found, datagram_at, with_mark, node_at, set_node}
use Rattle.protocol.specs.Worlds.{outcome_result, at_node}
use Rattle.protocol.proofs.Lists.{all_found, filter_keeps, filter_map_gives, IsIn-append, IsIn-map, IsIn-mapped}
use Rattle.protocol.proofs.Manager.Views.{prepared_shows}
use Rattle.xid.specs.Places.{Place, tx_place, is_lower, is_below, is_xid_below}
use Rattle.safety.proofs.World.Changes.{compact_keeps, restart_keeps}
use Rattle.safety.proofs.World.Events.{slice_among}
use Rattle.progress.proofs.Accepting.{number_among}
use Rattle.floors.specs.Nodes.{Rise, floor_after, floored_node_step, is_free_below, on_raise, on_least, may_replace, is_unread}
use Rattle.floors.specs.Worlds.{FlooredWorld, FlooredEvent, FlooredResult, Notice, Machine, Raise, Hear, Replace, at_floored_node}
use Rattle.floors.specs.Worlds.{is_manager, is_put, machine_result, on_machine, with_entry, nothing_told, told_after, with_rise, notices_of}
use Rattle.floors.specs.Worlds.{is_done, raise_result, raise_at, higher, told_with, least_told, hear_result, hear_at, replace_result}
use Rattle.floors.specs.Worlds.{replace_at, floored_step, told_nodes}
use Rattle.floors.specs.Runs.{IsFlooredReachable, Opening, After, floored_opening}
use Rattle.xid.proofs.Places.{not_lower, not_lower_self, not_below_none}
use Rattle.floors.proofs.Order.{higher_bound, least_is}
use Rattle.floors.proofs.Rising.{IsRisen, raise_is, least_rise, not_sunk, entry_by, entry_own, found_after}
use Rattle.floors.proofs.Nodes.{IsAboveFloor, kept_above, input_above, step_above, restart_forgets, compact_memory}

-- ---- a node through an event

-- whatever an event makes of one node keeps what its floored steps, restarts, compactions and tears keep
module _ (config : Config) (world : FlooredWorld) (n : NodeId) (Q : NodeState → Type 0)
    (inputs : (node : NodeState) (input : Input) (fault : Fault) → Q node
    → Q (floored_node_step config n (world.floor n) node input fault).node)
    (noises : (node : NodeState) (fault : Fault) → Q node → Q (node_step config n node ReceivedNoise fault).node)
    (tears : (node : NodeState) (k : ℕ) → Q node → Q (record node { tear = Some k }))
    (restarts : (node : NodeState) (fault : Fault) → Q node → Q (restart_outcome config n node fault).node)
    (compacts : (node : NodeState) (fault : Fault) → Q node → Q (compact_outcome node fault).node) where
  abbrev Keeps : World → Type 0
  Keeps after = (node : NodeState) → node_at config after n ≡ Some node → Q node

  module _ (before : Keeps world.machine) where
    -- another node in a place
    put_keeps : (base : World) (who : NodeId) (node new : NodeState) → base.nodes ≡ world.machine.nodes
        → node_at config base who ≡ Some node → (who ≡ n → Q node → Q new) → Keeps (set_node config base who new)
    put_keeps base who node new same is makes m now = elim (same_node n who) [
      | inl own ↦
          let there : node_at config (set_node config base who new) n ≡ Some new =
          ap (node_at config (set_node config base who new)) own ∙ node_there config base who node new is in
          let new_is : new ≡ m = cc (there, now) in
          let old : Q node = before node (ap (λ (ns : List NodeState). node_at config (record base { nodes = ns }) n) (sym same)
          ∙ ap (node_at config base) own ∙ is) in
          subst Q new_is (makes (sym own) old)
      | inr apart ↦
          before m (ap (λ (ns : List NodeState). node_at config (record base { nodes = ns }) n) (sym same)
          ∙ sym (node_elsewhere config base who n new apart) ∙ now)
    ]

    found_keeps : {X : Type 0} (base : World) → base.nodes ≡ world.machine.nodes → (o : Option X) (f : X → StepResult)
        → ((x : X) → o ≡ Some x → Keeps (f x).world) → Keeps (if_found base f o).world
    found_keeps base same None f keeps node is =
        before node (ap (λ (ns : List NodeState). node_at config (record base { nodes = ns }) n) (sym same) ∙ is)
    found_keeps base same (Some x) f keeps node is = keeps x refl node is

    input_keeps : (base : World) (who : NodeId) (input : Input) (fault : Fault) → base.nodes ≡ world.machine.nodes
        → Keeps (at_floored_node config base (world.floor who) who input fault).world
    input_keeps base who input fault same =
        found_keeps base same (node_at config base who)
        (λ node. outcome_result config base who node.facts (floored_node_step config who (world.floor who) node input fault))
        (λ node is. put_keeps base who node (floored_node_step config who (world.floor who) node input fault).node same is
        (λ own. subst (λ (k : NodeId). Q node → Q (floored_node_step config k (world.floor k) node input fault).node) (sym own)
        (inputs node input fault)))

    noise_keeps : (who : NodeId) (fault : Fault) → Keeps (at_node config world.machine who ReceivedNoise fault).world
    noise_keeps who fault =
        found_keeps world.machine refl (node_at config world.machine who)
        (λ node. outcome_result config world.machine who node.facts (node_step config who node ReceivedNoise fault))
        (λ node is. put_keeps world.machine who node (node_step config who node ReceivedNoise fault).node refl is
        (λ own. subst (λ (k : NodeId). Q node → Q (node_step config k node ReceivedNoise fault).node) (sym own) (noises node fault)))

    pub event_keeps : (event : Event) (fault : Fault) → Keeps (machine_result config world event fault).world
    event_keeps (Ask who request) fault = input_keeps world.machine who (Asked request) fault refl
    event_keeps (Deliver k) fault =
        found_keeps world.machine refl (datagram_at world.machine.net k)
        (λ d. at_floored_node config (with_mark world.machine k) (world.floor d.receiver) d.receiver (Received d.message) fault)
        (λ d is. input_keeps (with_mark world.machine k) d.receiver (Received d.message) fault refl)
    event_keeps (Lose k) fault =
        found_keeps world.machine refl (datagram_at world.machine.net k) (λ d. answer_result (with_mark world.machine k) Done)
        (λ d is. before)
    event_keeps (Cut k bytes) fault =
        found_keeps world.machine refl (datagram_at world.machine.net k)
        (λ d. if nat_lt bytes (length (spelling d.message)) then at_node config world.machine d.receiver ReceivedNoise fault
        else answer_result world.machine (Refused NoSuch))
        (λ d is. cond_both (nat_lt bytes (length (spelling d.message))) (at_node config world.machine d.receiver ReceivedNoise fault)
        (answer_result world.machine (Refused NoSuch)) (λ (r : StepResult). Keeps r.world)
        (λ fewer. noise_keeps d.receiver fault) (λ all. before))
    event_keeps (Noise who bytes) fault =
        cond_both (spells_message bytes)
        (if_found world.machine (λ node. answer_result world.machine (Refused Forged)) (node_at config world.machine who))
        (at_node config world.machine who ReceivedNoise fault) (λ (r : StepResult). Keeps r.world)
        (λ spelled. found_keeps world.machine refl (node_at config world.machine who)
        (λ node. answer_result world.machine (Refused Forged)) (λ node is. before))
        (λ garbled. noise_keeps who fault)
    event_keeps (Tear who k) fault =
        found_keeps world.machine refl (node_at config world.machine who)
        (λ node. answer_result (set_node config world.machine who (record node { tear = Some k })) Done)
        (λ node is. put_keeps world.machine who node (record node { tear = Some k }) refl is (λ own. tears node k))
    event_keeps (Restart who) fault =
        found_keeps world.machine refl (node_at config world.machine who)
        (λ node. outcome_result config world.machine who node.facts (restart_outcome config who node fault))
        (λ node is. put_keeps world.machine who node (restart_outcome config who node fault).node refl is
        (λ own. subst (λ (k : NodeId). Q node → Q (restart_outcome config k node fault).node) (sym own) (restarts node fault)))
    event_keeps (Compact who) fault =
        found_keeps world.machine refl (node_at config world.machine who)
        (λ node. if node.up then outcome_result config world.machine who node.facts (compact_outcome node fault)
        else answer_result world.machine (Refused Down))
        (λ node is. cond_both node.up _ _ (λ (r : StepResult). Keeps r.world)
        (λ up. put_keeps world.machine who node (compact_outcome node fault).node refl is (λ own. compacts node fault))
        (λ down. before))
    event_keeps event fault = before

-- ---- prepared branches

-- where a node has a transaction prepared it is a resource manager of the cluster, and there is such a node
pub manager_inside : (config : Config) (world : World) (r : ℕ) (tx : TxParts) → views_in config world tx r ≡ views.Prepared
    → r < config.managers
manager_inside config world r tx is = by_test (nat_lt r config.managers) refl is
  where
    by_test : (t : Bool) → nat_lt r config.managers ≡ t
        → view (facts_of (option_and_then (λ at. slice_get world.nodes at)
        (if t then Some (config.acceptors + config.leaders + r) else None))) tx ≡ views.Prepared
        → r < config.managers
    by_test true e h = ltb-true r config.managers e
    by_test false e h = absurd (cc (h))

-- a prepared transaction is bound to a branch
bound_is : (facts : List Fact) (tx : TxParts) → view facts tx ≡ views.Prepared → (bound : Bound) × IsIn (bound_branches facts) bound
    × (bound.tx ≡ tx)
bound_is facts tx is =
    let prepared : is_prepared_view (view facts tx) ≡ true = ap is_prepared_view is in
    let voted = (prepared_shows facts tx prepared).0 in
    let bound : Bound = record { tx = tx; keys = voted.0 } in (
      bound,
      filter_keeps (λ (b : Bound). is_prepared_view (view facts b.tx)) _ bound
          (filter_map_gives branch_bound_by facts (stored.VotePrepared tx voted.0) bound voted.1 refl) prepared,
      refl,
    )

-- where no branch of a node is below a place, its floor may be there
free_above : (place : Place) (node : NodeState) → is_free_below place node ≡ true → IsAboveFloor (Some place) node
free_above place node free =
    let parts = and_parts (list_all (λ (b : Bound). not (is_below (Some place) b.tx)) (bound_branches node.facts))
    (list_all (λ (b : Branch). not (is_xid_below (Some place) b.xid)) node.memory.branches) free in
    record {
      prepared = λ tx is.
          let bound = bound_is node.facts tx is in
          subst (λ (t : TxParts). is_below (Some place) t ≡ false) bound.2
          (not-true (is_below (Some place) bound.0.tx)
          (all_found (λ (b : Bound). not (is_below (Some place) b.tx)) (bound_branches node.facts) parts.0 bound.0 bound.1));
      branches = λ b h. not-true (is_xid_below (Some place) b.xid)
          (all_found (λ (c : Branch). not (is_xid_below (Some place) c.xid)) node.memory.branches parts.1 b h);
    }

-- ---- the invariant

-- resource managers' branches are above their floors, no other node's floor is above one of these, unless it was replaced, and what is told
-- of a floor is no higher than it
pub record IsAbove (config : Config) (world : FlooredWorld) : Type 0 where
  pub nodes : (r : ℕ) (node : NodeState) → node_at config world.machine (R r) ≡ Some node → IsAboveFloor (world.floor (R r)) node
  pub least : (who : NodeId) → is_manager who ≡ false → world.is_replaced who ≡ false → (r : ℕ) → r < config.managers
      → is_lower (world.floor (R r)) (world.floor who) ≡ false
  pub noticed : (notice : Notice) → IsIn world.notices notice → is_lower (world.floor (R notice.manager)) (Some notice.place) ≡ false
  pub told : (who : NodeId) (r : ℕ) → is_lower (world.floor (R r)) (world.told who r) ≡ false

new_above : (floor : Option Place) → IsAboveFloor floor new_node
new_above floor = record { prepared = λ tx is. absurd (cc (is)); branches = λ b h. absurd h }

opening_above : (config : Config) → IsAbove config (floored_opening config)
opening_above config = record {
  nodes = λ r node is. subst (IsAboveFloor None) (opening_node config (R r) node is) (new_above None);
  least = λ who other kept r inside. refl;
  noticed = λ notice h. absurd h;
  told = λ who r. refl;
}

-- ---- an event of the machine

machine_above : (config : Config) (world : FlooredWorld) → IsAbove config world → (event : Event) (fault : Fault)
    → IsAbove config (on_machine config world event fault).world
machine_above config world above event fault = record {
  nodes = λ r.
      let floor = world.floor (R r) in
      event_keeps config world (R r) (IsAboveFloor floor)
      (λ node input f old. input_above config r floor node old input f)
      (λ node f old. step_above config r floor node old ReceivedNoise f refl)
      (λ node k old. kept_above floor node (record node { tear = Some k }) refl (inl refl) old)
      (λ node f old. kept_above floor node (restart_outcome config (R r) node f).node (restart_keeps config (R r) node f)
      (inr (restart_forgets config (R r) node f)) old)
      (λ node f old. kept_above floor node (compact_outcome node f).node (compact_keeps node f) (compact_memory node f) old)
      (above.nodes r) event fault;
  least = above.least;
  noticed = above.noticed;
  told = λ who r. told_by event who r;
}
  where
    told_by : (e : Event) (who : NodeId) (r : ℕ) → is_lower (world.floor (R r)) (told_after world.told e who r) ≡ false
    told_by (Restart n) who r =
        entry_by world.told n nothing_told (λ (t : ℕ → Option Place). is_lower (world.floor (R r)) (t r) ≡ false) who
        (λ own. not_below_none (world.floor (R r))) (λ other. above.told who r)
    told_by e who r = above.told who r

-- ---- a rise

module _ (config : Config) (world : FlooredWorld) (above : IsAbove config world) where
  -- at a resource manager
  module _ (rm : ℕ) (node : NodeState) (is : node_at config world.machine (R rm) ≡ Some node) (rise : Rise)
      (risen : IsRisen (world.floor (R rm)) node (λ p. is_free_below p node ≡ true) rise) where
    own_above : IsAboveFloor rise.floor rise.node
    own_above = elim risen.floor_is [
      | inl same ↦ subst (λ (f : Option Place). IsAboveFloor f rise.node) (sym same)
          (kept_above (world.floor (R rm)) node rise.node risen.facts risen.memory (above.nodes rm node is))
      | inr up ↦ subst (λ (f : Option Place). IsAboveFloor f rise.node) (sym up.1)
          (kept_above (Some up.0) node rise.node risen.facts risen.memory (free_above up.0 node up.3))
    ]

    abbrev after : FlooredWorld
    after = (raise_result config world rm rise).world

    higher_now : (r : ℕ) → is_lower (after.floor (R r)) (world.floor (R r)) ≡ false
    higher_now r =
        entry_by world.floor (R rm) rise.floor (λ (f : Option Place). is_lower f (world.floor (R r)) ≡ false) (R r)
        (λ own. subst (λ (k : NodeId). is_lower rise.floor (world.floor k) ≡ false) (sym own)
        (not_sunk (world.floor (R rm)) node (λ p. is_free_below p node ≡ true) rise risen))
        (λ other. not_lower_self (world.floor (R r)))

    -- what wasn't above a floor isn't now
    still_under : (r : ℕ) (f : Option Place) → is_lower (world.floor (R r)) f ≡ false → is_lower (after.floor (R r)) f ≡ false
    still_under r f under = not_lower f (world.floor (R r)) (after.floor (R r)) under (higher_now r)

    notice_by : (t : Bool) (floor : Option Place) (notice : Notice) → IsIn (if t then notices_of config rm floor else []) notice
        → (notice.manager ≡ rm) × (floor ≡ Some notice.place)
    notice_by true None notice h = absurd h
    notice_by true (Some place) notice h =
        let from = IsIn-mapped (λ (who : NodeId). record { manager = rm; receiver = who; place = place })
        (told_nodes config) notice h in
        (ap (λ (n : Notice). n.manager) (sym from.maps), ap (λ (n : Notice). Some n.place) from.maps)
    notice_by false floor notice h = absurd h

    pub raised_above : IsAbove config after
    raised_above = record {
      nodes = λ r m now. elim (same_node (R r) (R rm)) [
        | inl own ↦
            let there : node_at config after.machine (R r) ≡ Some rise.node =
            ap (node_at config after.machine) own ∙ node_there config world.machine (R rm) node rise.node is in
            let m_is : rise.node ≡ m = cc (there, now) in
            let floor_is : after.floor (R r) ≡ rise.floor = ap after.floor own ∙ entry_own world.floor (R rm) rise.floor in
            subst (λ (k : NodeState). IsAboveFloor (after.floor (R r)) k) m_is
            (subst (λ (f : Option Place). IsAboveFloor f rise.node) (sym floor_is) own_above)
        | inr apart ↦
            entry_by world.floor (R rm) rise.floor (λ (f : Option Place). IsAboveFloor f m) (R r) (λ own. absurd (apart own))
            (λ other. above.nodes r m (sym (node_elsewhere config world.machine (R rm) (R r) rise.node apart) ∙ now))
      ];
      least = λ who other kept r inside.
          entry_by world.floor (R rm) rise.floor (λ (f : Option Place). is_lower (after.floor (R r)) f ≡ false) who
          (λ own. let manager : is_manager who ≡ true = ap is_manager own in absurd (cc (manager, other)))
          (λ apart. still_under r (world.floor who) (above.least who other kept r inside));
      noticed = λ notice h.
          elim (IsIn-append world.notices (if is_done rise.answer then notices_of config rm rise.floor else []) notice h) [
            | inl old ↦ still_under notice.manager (Some notice.place) (above.noticed notice old)
            | inr new ↦
                let from = notice_by (is_done rise.answer) rise.floor notice new in
                let floor_is : after.floor (R notice.manager) ≡ Some notice.place =
                ap (λ (k : ℕ). after.floor (R k)) from.0 ∙ entry_own world.floor (R rm) rise.floor ∙ from.1 in
                subst (λ (f : Option Place). is_lower f (Some notice.place) ≡ false) (sym floor_is) (not_lower_self (Some notice.place))
          ];
      told = λ who r. still_under r (world.told who r) (above.told who r);
    }

  -- at another node no resource manager is touched
  others_kept : (who : NodeId) → is_manager who ≡ false → (node : NodeState) (floor : Option Place) (r : ℕ) (m : NodeState)
      → node_at config (set_node config world.machine who node) (R r) ≡ Some m
      → IsAboveFloor (with_entry world.floor who floor (R r)) m
  others_kept who other node floor r m now =
      let apart : R r ≡ who → ⊥ = λ same. let manager : is_manager who ≡ true = ap is_manager (sym same) in absurd (cc (manager, other)) in
      entry_by world.floor who floor (λ (f : Option Place). IsAboveFloor f m) (R r) (λ own. absurd (apart own))
      (λ elsewhere. above.nodes r m (sym (node_elsewhere config world.machine who (R r) node apart) ∙ now))

  -- and none of their floors
  same_floor : (who : NodeId) → is_manager who ≡ false → (floor : Option Place) (r : ℕ)
      → with_entry world.floor who floor (R r) ≡ world.floor (R r)
  same_floor who other floor r =
      entry_by world.floor who floor (λ (f : Option Place). f ≡ world.floor (R r)) (R r)
      (λ own. let manager : is_manager who ≡ true = ap is_manager (sym own) in absurd (cc (manager, other))) (λ apart. refl)

  -- ---- what is told

  module _ (notice : Notice) (among : IsIn world.notices notice) (other : is_manager notice.receiver ≡ false) (node : NodeState)
      (fault : Fault) where
    abbrev who : NodeId
    who = notice.receiver

    abbrev now_told : ℕ → Option Place
    now_told = told_with (world.told who) notice

    told_under : (r : ℕ) → is_lower (world.floor (R r)) (now_told r) ≡ false
    told_under r =
        cond_both (r == notice.manager) (higher (world.told who r) (Some notice.place)) (world.told who r)
        (λ (f : Option Place). is_lower (world.floor (R r)) f ≡ false)
        (λ same. higher_bound (world.told who r) (Some notice.place) (world.floor (R r)) (above.told who r)
        (subst (λ (k : ℕ). is_lower (world.floor (R k)) (Some notice.place) ≡ false) (sym (eqb-true r notice.manager same))
        (above.noticed notice among)))
        (λ apart. above.told who r)

    -- the least of what was told is under each resource manager's floor
    least_under : (r : ℕ) → r < config.managers → is_lower (world.floor (R r)) (least_told config now_told) ≡ false
    least_under r inside =
        not_lower (least_told config now_told) (now_told r) (world.floor (R r))
        (least_is (map now_told (range_with_len 0 config.managers)) (now_told r)
        (IsIn-map now_told (range_with_len 0 config.managers) r (number_among 0 config.managers r (omega arith) (omega arith))))
        (told_under r)

    abbrev rise : Rise
    rise = on_least (world.floor who) node (least_told config now_told) fault

    rise_under : world.is_replaced who ≡ false → (r : ℕ) → r < config.managers → is_lower (world.floor (R r)) rise.floor ≡ false
    rise_under kept r inside = elim (least_rise (world.floor who) node (least_told config now_told) fault).floor_is [
      | inl same ↦ subst (λ (f : Option Place). is_lower (world.floor (R r)) f ≡ false) (sym same) (above.least who other kept r inside)
      | inr up ↦ subst (λ (f : Option Place). is_lower (world.floor (R r)) f ≡ false) (up.3 ∙ sym up.1) (least_under r inside)
    ]

    pub heard_above : IsAbove config (record (with_rise config world who rise) { told = with_entry world.told who now_told })
    heard_above = record {
      nodes = others_kept who other rise.node rise.floor;
      least = λ n n_other kept r inside.
          subst (λ (low : Option Place). is_lower low (with_entry world.floor who rise.floor n) ≡ false)
          (sym (same_floor who other rise.floor r))
          (entry_by world.floor who rise.floor (λ (f : Option Place). is_lower (world.floor (R r)) f ≡ false) n
          (λ own. rise_under (ap world.is_replaced (sym own) ∙ kept) r inside) (λ apart. above.least n n_other kept r inside));
      noticed = λ one h.
          subst (λ (f : Option Place). is_lower f (Some one.place) ≡ false) (sym (same_floor who other rise.floor one.manager))
          (above.noticed one h);
      told = λ n r.
          subst (λ (low : Option Place). is_lower low (with_entry world.told who now_told n r) ≡ false)
          (sym (same_floor who other rise.floor r))
          (entry_by world.told who now_told (λ (t : ℕ → Option Place). is_lower (world.floor (R r)) (t r) ≡ false) n
          (λ own. told_under r) (λ apart. above.told n r));
    }

  -- ---- a node that is replaced

  module _ (who : NodeId) (other : is_manager who ≡ false) (left : NodeState) (floor : Option Place) (put : Bool)
      (kept_there : put ≡ false → floor ≡ world.floor who) where
    abbrev replacing : Rise
    replacing = record { node = left; floor = floor; answer = Done }

    abbrev replaced_now : NodeId → Bool
    replaced_now = if put then with_entry world.is_replaced who true else world.is_replaced

    -- where it wasn't put there, its floor is what it was; where it was, nothing is said of it
    own_least : (b : Bool) → put ≡ b → (if b then with_entry world.is_replaced who true else world.is_replaced) who ≡ false → (r : ℕ)
        → r < config.managers → is_lower (world.floor (R r)) floor ≡ false
    own_least true is kept r inside =
        let put_in : with_entry world.is_replaced who true who ≡ true = entry_own world.is_replaced who true in
        absurd (cc (put_in, kept))
    own_least false is kept r inside =
        subst (λ (f : Option Place). is_lower (world.floor (R r)) f ≡ false) (sym (kept_there is)) (above.least who other kept r inside)

    other_kept : (b : Bool) (n : NodeId) → (n ≡ who → ⊥)
        → (if b then with_entry world.is_replaced who true else world.is_replaced) n ≡ false → world.is_replaced n ≡ false
    other_kept true n apart kept =
        entry_by world.is_replaced who true (λ (b : Bool). b ≡ false → world.is_replaced n ≡ false) n (λ own. absurd (apart own))
        (λ also e. e) kept
    other_kept false n apart kept = kept

    pub replaced_above : IsAbove config (record (with_rise config world who replacing) {
      told = with_entry world.told who nothing_told;
      is_replaced = replaced_now;
    })
    replaced_above = record {
      nodes = others_kept who other left floor;
      least = λ n n_other kept r inside.
          subst (λ (low : Option Place). is_lower low (with_entry world.floor who floor n) ≡ false) (sym (same_floor who other floor r))
          (elim (same_node n who) [
            | inl own ↦
                subst (λ (f : Option Place). is_lower (world.floor (R r)) f ≡ false)
                (sym (ap (with_entry world.floor who floor) own ∙ entry_own world.floor who floor))
                (own_least put refl (subst (λ (k : NodeId). replaced_now k ≡ false) own kept) r inside)
            | inr apart ↦
                entry_by world.floor who floor (λ (f : Option Place). is_lower (world.floor (R r)) f ≡ false) n
                (λ own. absurd (apart own)) (λ elsewhere. above.least n n_other (other_kept put n apart kept) r inside)
          ]);
      noticed = λ one h.
          subst (λ (f : Option Place). is_lower f (Some one.place) ≡ false) (sym (same_floor who other floor one.manager))
          (above.noticed one h);
      told = λ n r.
          subst (λ (low : Option Place). is_lower low (with_entry world.told who nothing_told n r) ≡ false)
          (sym (same_floor who other floor r))
          (entry_by world.told who nothing_told (λ (t : ℕ → Option Place). is_lower (world.floor (R r)) (t r) ≡ false) n
          (λ own. not_below_none (world.floor (R r))) (λ apart. above.told n r));
    }

-- ---- ever

raise_keeps : (config : Config) (world : FlooredWorld) → IsAbove config world → (who : NodeId) (place : Place) (fault : Fault)
    → IsAbove config (raise_at config world who place fault).world
raise_keeps config world above (R rm) place fault =
    found_after world (IsAbove config) above (node_at config world.machine (R rm))
    (λ node. raise_result config world rm (on_raise (world.floor (R rm)) node place fault))
    (λ node is. raised_above config world above rm node is (on_raise (world.floor (R rm)) node place fault)
    (raise_is (world.floor (R rm)) node place fault))
raise_keeps config world above (A a) place fault = above
raise_keeps config world above (L l) place fault = above

hear_keeps : (config : Config) (world : FlooredWorld) → IsAbove config world → (notice : Notice) → IsIn world.notices notice
    → (fault : Fault)
    → IsAbove config (hear_at config world fault notice).world
hear_keeps config world above notice among fault =
    cond_both (is_manager notice.receiver) _ _ (λ (r : FlooredResult). IsAbove config r.world) (λ manager. above)
    (λ other. found_after world (IsAbove config) above (node_at config world.machine notice.receiver)
    (hear_result config world notice fault)
    (λ node is. cond_both node.up _ _ (λ (r : FlooredResult). IsAbove config r.world)
    (λ up. heard_above config world above notice among other node fault) (λ down. above)))

unput_floor : (floor : Option Place) (place : Place) (fault : Fault) → is_put fault ≡ false → floor_after floor place fault ≡ floor
unput_floor floor place NoMemoryAt none = refl
unput_floor floor place (RecordFails false) none = refl
unput_floor floor place (RecordFails true) none = absurd (cc (none))
unput_floor floor place NoFault none = absurd (cc (none))
unput_floor floor place NoMemoryBefore none = absurd (cc (none))

-- what was told to a node is lost
lost_above : (config : Config) (world : FlooredWorld) → IsAbove config world → (who : NodeId)
    → IsAbove config (record world { told = with_entry world.told who nothing_told })
lost_above config world above who = record {
  nodes = above.nodes;
  least = above.least;
  noticed = above.noticed;
  told = λ n r.
      entry_by world.told who nothing_told (λ (t : ℕ → Option Place). is_lower (world.floor (R r)) (t r) ≡ false) n
      (λ own. not_below_none (world.floor (R r))) (λ apart. above.told n r);
}

replace_keeps : (config : Config) (world : FlooredWorld) → IsAbove config world → (who : NodeId) (place : Place) (fault : Fault)
    → IsAbove config (replace_at config world who place fault).world
replace_keeps config world above who place fault =
    cond_both (is_manager who) _ _ (λ (r : FlooredResult). IsAbove config r.world) (λ manager. above)
    (λ other. found_after world (IsAbove config) above (node_at config world.machine who) (replace_result config world who place fault)
    (λ node is. cond_both (may_replace (world.floor who) node place) _ _ (λ (r : FlooredResult). IsAbove config r.world)
    (λ may. replaced_above config world above who other (restart_outcome config who node fault).node
    (floor_after (world.floor who) place fault) (is_put fault) (unput_floor (world.floor who) place fault))
    (λ used. cond_both (is_unread node fault) _ world (IsAbove config) (λ unread. lost_above config world above who) (λ told. above))))

step_keeps : (config : Config) (world : FlooredWorld) → IsAbove config world → (event : FlooredEvent) (fault : Fault)
    → IsAbove config (floored_step config world event fault).world
step_keeps config world above event NoMemoryBefore = above
step_keeps config world above (Machine event) fault = machine_above config world above event fault
step_keeps config world above (Raise who place) fault = raise_keeps config world above who place fault
step_keeps config world above (Hear n) fault =
    found_after world (IsAbove config) above (slice_get world.notices n) (hear_at config world fault)
    (λ notice is. hear_keeps config world above notice (slice_among world.notices n notice is) fault)
step_keeps config world above (Replace who place) fault = replace_keeps config world above who place fault

pub above_ever : (config : Config) (world : FlooredWorld) → IsFlooredReachable config world → IsAbove config world
above_ever config _ Opening = opening_above config
above_ever config _ (After world event fault reach) = step_keeps config world (above_ever config world reach) event fault

-- ---- so what is prepared is above

pub own_is_above : (config : Config) (world : FlooredWorld) → IsFlooredReachable config world → (tx : TxParts) (r : ℕ)
    → views_in config world.machine tx r ≡ views.Prepared → is_below (world.floor (R r)) tx ≡ false
own_is_above config world reach tx r is = by_node (node_at config world.machine (R r)) refl is
  where
    by_node : (o : Option NodeState) → node_at config world.machine (R r) ≡ o → view (facts_of o) tx ≡ views.Prepared
        → is_below (world.floor (R r)) tx ≡ false
    by_node None e h = absurd (cc (h))
    by_node (Some node) e h = ((above_ever config world reach).nodes r node e).prepared tx h

pub others_are_below : (config : Config) (world : FlooredWorld) → IsFlooredReachable config world → (tx : TxParts) (r : ℕ)
    → views_in config world.machine tx r ≡ views.Prepared → (who : NodeId) → is_manager who ≡ false → world.is_replaced who ≡ false
    → is_below (world.floor who) tx ≡ false
others_are_below config world reach tx r is who other kept =
    not_lower (world.floor who) (world.floor (R r)) (Some (tx_place tx))
    ((above_ever config world reach).least who other kept r (manager_inside config world.machine r tx is))
    (own_is_above config world reach tx r is)
