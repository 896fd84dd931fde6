-- A node stores nothing about a name below its floor; and a blank one that is put in lacks nothing.
use Rattle.std.proofs.Common.{◌≡◌, ◌⊎◌, inl, inr, ◌∙◌, Bool, true, false, not, List, [], ◌∷◌, ◌++◌, Option, Some, None}
use Rattle.std.proofs.Common.{refl, sym, ap, subst}
use Rattle.std.specs.Prelude.{IfSome, slice_get}
use Rattle.std.specs.List.{list_all}
use Rattle.std.specs.Option.{option_to_list, option_map_or}
use Rattle.std.proofs.lemmas.Bool.{cond_both, cond-false, and_parts, not_from_true}
use Rattle.ballot.specs.Greatest.{IsIn}
use Rattle.stable_record.specs.Facts.{fact_tx}
use Rattle.protocol.specs.Basics.{Fact}
use Rattle.safety.specs.Vocabulary.{NodeId, A, L, R, Event}
use Rattle.safety.specs.Standing.{facts_of, facts_at}
use Rattle.safety.proofs.World.Outcomes.{step_is}
use Rattle.protocol.specs.Effects.{Config}
use Rattle.protocol.specs.Nodes.{NodeState, Input, ReceivedNoise, Fault, NoMemoryBefore, Outcome, effect_of, node_step, restart_outcome}
use Rattle.protocol.specs.Nodes.{compact_outcome}
use Rattle.protocol.specs.Worlds.{World, node_at, set_node}
use Rattle.protocol.proofs.Lists.{IsIn-append}
use Rattle.safety.proofs.World.Growth.{same_node}
use Rattle.safety.proofs.World.NodePlaces.{node_there, node_elsewhere}
use Rattle.xid.specs.Places.{Place, is_lower, is_below}
use Rattle.safety.proofs.World.Changes.{compact_keeps, restart_keeps}
use Rattle.floors.specs.Nodes.{floored_node_step, is_input_below, on_raise, on_least, may_replace, is_unread, is_unused_above}
use Rattle.protocol.specs.Kept.{is_kept, kept_facts}
use Rattle.floors.specs.Runs.{is_put_in}
use Rattle.floors.specs.Worlds.{FlooredWorld, FlooredEvent, FlooredResult, Notice, Machine, Raise, Hear, Replace, is_manager, raise_result}
use Rattle.floors.specs.Worlds.{raise_at, told_with, least_told, hear_result, hear_at, replace_result, replace_at, floored_step}
use Rattle.floors.specs.Worlds.{machine_result, on_machine}
use Rattle.floors.proofs.About.{IsOn, effect_about, on_above}
use Rattle.floors.proofs.Nodes.{below_stays, above_is}
use Rattle.floors.proofs.Rising.{raise_is, least_rise, found_after}
use Rattle.floors.proofs.Above.{event_keeps}

-- each fact was there before, or is about a name that isn't below a floor
abbrev pub AreOldOrAbove : Option Place → (before after : List Fact) → Type 0
AreOldOrAbove floor before after = (fact : Fact) → IsIn after fact → IsIn before fact ⊎ (is_below floor (fact_tx fact) ≡ false)

-- ---- one node

module _ (config : Config) (who : NodeId) (floor : Option Place) (node : NodeState) where
  same_facts : (after : List Fact) → after ≡ node.facts → AreOldOrAbove floor node.facts after
  same_facts after e fact h = inl (subst (λ (facts : List Fact). IsIn facts fact) e h)

  one_more : (fact : Option Fact) → IfSome fact (λ f. is_below floor (fact_tx f) ≡ false)
      → AreOldOrAbove floor node.facts (node.facts ++ option_to_list fact)
  one_more None above fact h = elim (IsIn-append node.facts [] fact h) [ inl old ↦ inl old | inr none ↦ absurd none ]
  one_more (Some new) above fact h = elim (IsIn-append node.facts (new ∷ []) fact h) [
    | inl old ↦ inl old
    | inr here ↦ elim here [ inl e ↦ inr (subst (λ (f : Fact). is_below floor (fact_tx f) ≡ false) e above) | inr none ↦ absurd none ]
  ]

  fact_above : (input : Input) → is_input_below floor input ≡ false → (fact : Option Fact) → IfSome fact (λ f. IsOn input (fact_tx f))
      → IfSome fact (λ f. is_below floor (fact_tx f) ≡ false)
  fact_above input above None on = tt
  fact_above input above (Some f) on = on_above floor input (fact_tx f) on above

  step_stores : (input : Input) (fault : Fault) → is_input_below floor input ≡ false
      → AreOldOrAbove floor node.facts (node_step config who node input fault).node.facts
  step_stores input fault above =
      let e = effect_of config who node.facts node.memory input in
      let more = one_more e.fact (fact_above input above e.fact (effect_about config who node.facts node.memory input).stored) in
      elim (step_is config who node input fault) [
        | inl keeps ↦ same_facts (node_step config who node input fault).node.facts keeps.facts
        | inr (inl stopped) ↦ subst (AreOldOrAbove floor node.facts) (sym stopped.facts) more
        | inr (inr finished) ↦ subst (AreOldOrAbove floor node.facts) (sym finished.facts) more
      ]

  input_stores : (input : Input) (fault : Fault)
      → AreOldOrAbove floor node.facts (floored_node_step config who floor node input fault).node.facts
  input_stores input fault = by_test (is_input_below floor input) refl
    where
      by_test : (t : Bool) → is_input_below floor input ≡ t
          → AreOldOrAbove floor node.facts (floored_node_step config who floor node input fault).node.facts
      by_test true e = same_facts (floored_node_step config who floor node input fault).node.facts
          (ap (λ (n : NodeState). n.facts) (below_stays config who floor node input fault e))
      by_test false e =
          subst (λ (left : Outcome). AreOldOrAbove floor node.facts left.node.facts) (sym (above_is config who floor node input fault e))
          (step_stores input fault e)

  -- and so on from an earlier moment
  since : (before after : List Fact) → AreOldOrAbove floor before node.facts → AreOldOrAbove floor node.facts after
      → AreOldOrAbove floor before after
  since before after first second fact h = elim (second fact h) [ inl old ↦ first fact old | inr above ↦ inr above ]

-- ---- in the world

module _ (config : Config) (world : FlooredWorld) (n : NodeId) where
  abbrev before : List Fact
  before = facts_at config world.machine n

  abbrev Since : NodeState → Type 0
  Since node = AreOldOrAbove (world.floor n) before node.facts

  abbrev StoresAbove : FlooredWorld → Type 0
  StoresAbove after = AreOldOrAbove (world.floor n) before (facts_at config after.machine n)

  nothing_new : StoresAbove world
  nothing_new fact h = inl h

  node_since : (node : NodeState) → node_at config world.machine n ≡ Some node → Since node
  node_since node is fact h = inl (subst (λ (o : Option NodeState). IsIn (facts_of o) fact) (sym is) h)

  kept_since : (node : NodeState) (after : List Fact) → after ≡ node.facts → Since node → AreOldOrAbove (world.floor n) before after
  kept_since node after e since_then = subst (AreOldOrAbove (world.floor n) before) (sym e) since_then

  -- what holds of the node that stands there
  by_node : (after : World) (o : Option NodeState) → node_at config after n ≡ o
      → ((node : NodeState) → node_at config after n ≡ Some node → Since node)
      → AreOldOrAbove (world.floor n) before (facts_of o)
  by_node after None is each fact h = absurd h
  by_node after (Some node) is each fact h = each node is fact h

  machine_stores : (event : Event) (fault : Fault) → StoresAbove (on_machine config world event fault).world
  machine_stores event fault =
      by_node (machine_result config world event fault).world (node_at config (machine_result config world event fault).world n) refl
      (event_keeps config world n Since
      (λ node input f old. since config n (world.floor n) node before
      (floored_node_step config n (world.floor n) node input f).node.facts old
      (input_stores config n (world.floor n) node input f))
      (λ node f old. since config n (world.floor n) node before (node_step config n node ReceivedNoise f).node.facts old
      (step_stores config n (world.floor n) node ReceivedNoise f refl))
      (λ node k old. old)
      (λ node f old. kept_since node (restart_outcome config n node f).node.facts (restart_keeps config n node f) old)
      (λ node f old. kept_since node (compact_outcome node f).node.facts (compact_keeps node f) old)
      node_since event fault)

  -- a node that keeps its facts in its place
  put_stores : (who : NodeId) (node new : NodeState) → node_at config world.machine who ≡ Some node → new.facts ≡ node.facts
      → AreOldOrAbove (world.floor n) before (facts_at config (set_node config world.machine who new) n)
  put_stores who node new is same fact h = inl (subst (λ (facts : List Fact). IsIn facts fact) facts_are h)
    where
      facts_are : facts_at config (set_node config world.machine who new) n ≡ before
      facts_are = elim (same_node n who) [
        | inl own ↦
            ap (λ (k : NodeId). facts_at config (set_node config world.machine who new) k) own
            ∙ ap facts_of (node_there config world.machine who node new is) ∙ same ∙ sym (ap facts_of is)
            ∙ sym (ap (facts_at config world.machine) own)
        | inr apart ↦ ap facts_of (node_elsewhere config world.machine who n new apart)
      ]

  raise_stores : (who : NodeId) (place : Place) (fault : Fault) → StoresAbove (raise_at config world who place fault).world
  raise_stores (R rm) place fault =
      found_after world StoresAbove nothing_new (node_at config world.machine (R rm))
      (λ node. raise_result config world rm (on_raise (world.floor (R rm)) node place fault))
      (λ node is. put_stores (R rm) node (on_raise (world.floor (R rm)) node place fault).node is
      (raise_is (world.floor (R rm)) node place fault).facts)
  raise_stores (A a) place fault = nothing_new
  raise_stores (L l) place fault = nothing_new

  hear_stores : (notice : Notice) (fault : Fault) → StoresAbove (hear_at config world fault notice).world
  hear_stores notice fault =
      let who = notice.receiver in
      let least = least_told config (told_with (world.told who) notice) in
      cond_both (is_manager who) _ _ (λ (r : FlooredResult). StoresAbove r.world) (λ manager. nothing_new)
      (λ other. found_after world StoresAbove nothing_new (node_at config world.machine who) (hear_result config world notice fault)
      (λ node is. cond_both node.up _ _ (λ (r : FlooredResult). StoresAbove r.world)
      (λ up. put_stores who node (on_least (world.floor who) node least fault).node is
      (least_rise (world.floor who) node least fault).facts)
      (λ down. nothing_new)))

  replace_stores : (who : NodeId) (place : Place) (fault : Fault) → StoresAbove (replace_at config world who place fault).world
  replace_stores who place fault =
      cond_both (is_manager who) _ _ (λ (r : FlooredResult). StoresAbove r.world) (λ manager. nothing_new)
      (λ other. found_after world StoresAbove nothing_new (node_at config world.machine who) (replace_result config world who place fault)
      (λ node is. cond_both (may_replace (world.floor who) node place) _ _ (λ (r : FlooredResult). StoresAbove r.world)
      (λ may. put_stores who node (restart_outcome config who node fault).node is (restart_keeps config who node fault))
      (λ used. cond_both (is_unread node fault) _ world StoresAbove (λ unread. nothing_new) (λ told. nothing_new))))

  -- whatever happens, what a node stores is about a name that isn't below its floor
  pub stores_above : (event : FlooredEvent) (fault : Fault) → StoresAbove (floored_step config world event fault).world
  stores_above event NoMemoryBefore = nothing_new
  stores_above (Machine event) fault = machine_stores event fault
  stores_above (Raise who place) fault = raise_stores who place fault
  stores_above (Hear k) fault =
      found_after world StoresAbove nothing_new (slice_get world.notices k) (hear_at config world fault)
      (λ notice is. hear_stores notice fault)
  stores_above (Replace who place) fault = replace_stores who place fault

-- ---- blank nodes

none_kept : (place : Place) (facts : List Fact) → list_all (λ fact. is_below (Some place) (fact_tx fact)) facts ≡ true
    → kept_facts (Some place) facts ≡ []
none_kept place [] h = refl
none_kept place (f ∷ fs) h =
    let parts = and_parts (is_below (Some place) (fact_tx f)) (list_all (λ fact. is_below (Some place) (fact_tx fact)) fs) h in
    cond-false (is_kept (Some place) f) (f ∷ kept_facts (Some place) fs) (kept_facts (Some place) fs)
    (not_from_true (is_below (Some place) (fact_tx f)) parts.0)
    ∙ none_kept place fs parts.1

pub nothing_lacks : (config : Config) (world : FlooredWorld) (who : NodeId) (place : Place) → is_put_in config world who place ≡ true
    → kept_facts (Some place) (facts_at config world.machine who) ≡ []
nothing_lacks config world who place h =
    by_there (node_at config world.machine who)
    (and_parts (not (is_manager who))
    (option_map_or (λ node. may_replace (world.floor who) node place) (node_at config world.machine who) false) h).1
  where
    by_there : (o : Option NodeState) → option_map_or (λ node. may_replace (world.floor who) node place) o false ≡ true
        → kept_facts (Some place) (facts_of o) ≡ []
    by_there None e = absurd (cc (e))
    by_there (Some node) e =
        none_kept place node.facts (and_parts (not (is_lower (Some place) (world.floor who))) (is_unused_above place node) e).1
