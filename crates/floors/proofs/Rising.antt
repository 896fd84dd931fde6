-- Floors only rise, and rise where they may.
use Rattle.std.proofs.Common.{◌≡◌, ◌⊎◌, inl, inr, ◌∙◌, ℕ, Bool, true, false, not, if◌then◌else◌, Option, Some, None, refl, sym, ap, subst}
use Rattle.std.specs.Prelude.{slice_get}
use Rattle.std.proofs.lemmas.Bool.{cond_both, cond-true, and_parts, not-true}
use Rattle.xid.specs.declared.refusals.Refusal.TheVariants.{Down, Busy}
use Rattle.safety.specs.Vocabulary.{NodeId, A, L, R, Answer, Done, Refused}
use Rattle.protocol.specs.Effects.{Config}
use Rattle.protocol.specs.Nodes.{NodeState, empty_memory, Fault, NoFault, NoMemoryBefore, NoMemoryAt, RecordFails}
use Rattle.protocol.specs.Worlds.{node_at}
use Rattle.ballot.specs.Greatest.{IsIn}
use Rattle.protocol.proofs.Lists.{IsIn-after, IsIn-map}
use Rattle.xid.specs.Places.{Place, is_lower}
use Rattle.safety.proofs.World.Changes.{compact_keeps}
use Rattle.floors.specs.Nodes.{Rise, kept_rise, floor_after, risen, on_raise, on_least, is_free_below, may_replace, is_unread}
use Rattle.floors.specs.Nodes.{is_unused_above}
use Rattle.floors.specs.Worlds.{FlooredWorld, FlooredEvent, FlooredResult, Notice, Machine, Raise, Hear, Replace, with_entry}
use Rattle.floors.specs.Worlds.{is_node, is_manager, raise_result, raise_at, floored_if_found, told_with, least_told, hear_result, hear_at}
use Rattle.floors.specs.Worlds.{replace_result, replace_at, floored_step, floored_answer, told_nodes, notices_of, with_rise}
use Rattle.xid.proofs.Places.{not_lower_self, not_back, not_below_none}
use Rattle.floors.proofs.Places.{node_is, self_node}
use Rattle.floors.proofs.Nodes.{compact_memory}

-- ---- one node

-- a node whose floor was to rise: its facts stay, its memory stays or is lost, and its floor is the old one, or a higher one that it may be
pub record IsRisen (floor : Option Place) (node : NodeState) (May : Place → Type 0) (rise : Rise) : Type 0 where
  pub facts : rise.node.facts ≡ node.facts
  pub memory : (rise.node.memory ≡ node.memory) ⊎ (rise.node.memory ≡ empty_memory)
  pub floor_is : (rise.floor ≡ floor)
      ⊎ ((place : Place) × (rise.floor ≡ Some place) × (is_lower floor (Some place) ≡ true) × May place)

module _ (floor : Option Place) (node : NodeState) (May : Place → Type 0) where
  kept_is : (answer : Answer) → IsRisen floor node May (kept_rise floor node answer)
  kept_is answer = record { facts = refl; memory = inl refl; floor_is = inl refl }

  module _ (place : Place) (higher : is_lower floor (Some place) ≡ true) (may : May place) where
    floor_by : (fault : Fault) → (floor_after floor place fault ≡ floor)
        ⊎ ((to : Place) × (floor_after floor place fault ≡ Some to) × (is_lower floor (Some to) ≡ true) × May to)
    floor_by NoMemoryAt = inl refl
    floor_by (RecordFails true) = inr (place, refl, higher, may)
    floor_by (RecordFails false) = inl refl
    floor_by fault = inr (place, refl, higher, may)

    risen_is : (fault : Fault) → IsRisen floor node May (risen floor node place fault)
    risen_is fault = record { facts = compact_keeps node fault; memory = compact_memory node fault; floor_is = floor_by fault }

module _ (floor : Option Place) (node : NodeState) where
  pub raise_is : (place : Place) (fault : Fault) → IsRisen floor node (λ p. is_free_below p node ≡ true) (on_raise floor node place fault)
  raise_is place fault =
      let May = λ (p : Place). is_free_below p node ≡ true in
      cond_both (not node.up) _ _ (IsRisen floor node May) (λ down. kept_is floor node May (Refused Down))
      (λ up. cond_both (not (is_lower floor (Some place))) _ _ (IsRisen floor node May) (λ same. kept_is floor node May Done)
      (λ higher. cond_both (not (is_free_below place node)) _ _ (IsRisen floor node May) (λ busy. kept_is floor node May (Refused Busy))
      (λ free. risen_is floor node May place (not_not (is_lower floor (Some place)) higher)
      (not_not (is_free_below place node) free) fault)))
    where
      not_not : (b : Bool) → not b ≡ false → b ≡ true
      not_not true e = refl
      not_not false e = absurd (cc (e))

  pub least_rise : (least : Option Place) (fault : Fault) → IsRisen floor node (λ p. least ≡ Some p) (on_least floor node least fault)
  least_rise None fault = kept_is floor node (λ p. None ≡ Some p) Done
  least_rise (Some place) fault =
      let May = λ (p : Place). Some place ≡ Some p in
      cond_both (is_lower floor (Some place)) (risen floor node place fault) (kept_rise floor node Done) (IsRisen floor node May)
      (λ higher. risen_is floor node May place higher refl fault) (λ same. kept_is floor node May Done)

  -- so a floor doesn't sink
  pub not_sunk : (May : Place → Type 0) (rise : Rise) → IsRisen floor node May rise → is_lower rise.floor floor ≡ false
  not_sunk May rise is = elim is.floor_is [
    | inl same ↦ subst (λ (f : Option Place). is_lower f floor ≡ false) (sym same) (not_lower_self floor)
    | inr up ↦ subst (λ (f : Option Place). is_lower f floor ≡ false) (sym up.1) (not_back floor (Some up.0) up.2)
  ]

-- ---- tables by node

module _ {X : Type 0} (table : NodeId → X) (who : NodeId) (x : X) where
  pub entry_by : (P : X → Type 0) (n : NodeId) → (n ≡ who → P x) → ((n ≡ who → ⊥) → P (table n)) → P (with_entry table who x n)
  entry_by P n own other =
      cond_both (is_node n who) x (table n) P (λ e. own (node_is n who e))
      (λ e. other (λ same.
      let t : is_node n who ≡ true = subst (λ (k : NodeId). is_node n k ≡ true) same (self_node n) in absurd (cc (e, t))))

  pub entry_own : with_entry table who x who ≡ x
  entry_own = cond-true (is_node who who) x (table who) (self_node who)

-- ---- any world

module _ {X : Type 0} (world : FlooredWorld) (P : FlooredWorld → Type 0) (same : P world) where
  pub found_after : (o : Option X) (f : X → FlooredResult) → ((x : X) → o ≡ Some x → P (f x).world)
      → P (floored_if_found world f o).world
  found_after None f makes = same
  found_after (Some x) f makes = makes x refl

module _ (config : Config) (world : FlooredWorld) where
  abbrev NeverSinks : FlooredWorld → Type 0
  NeverSinks after = (n : NodeId) → is_lower (after.floor n) (world.floor n) ≡ false

  same_floors : NeverSinks world
  same_floors n = not_lower_self (world.floor n)

  entry_sinks : (who : NodeId) (floor : Option Place) → is_lower floor (world.floor who) ≡ false → (n : NodeId)
      → is_lower (with_entry world.floor who floor n) (world.floor n) ≡ false
  entry_sinks who floor up n =
      entry_by world.floor who floor (λ (f : Option Place). is_lower f (world.floor n) ≡ false) n
      (λ own. subst (λ (k : NodeId). is_lower floor (world.floor k) ≡ false) (sym own) up) (λ other. same_floors n)

  raise_sinks : (who : NodeId) (place : Place) (fault : Fault) → NeverSinks (raise_at config world who place fault).world
  raise_sinks (R rm) place fault =
      found_after world NeverSinks same_floors (node_at config world.machine (R rm))
      (λ node. raise_result config world rm (on_raise (world.floor (R rm)) node place fault))
      (λ node is. entry_sinks (R rm) (on_raise (world.floor (R rm)) node place fault).floor
      (not_sunk (world.floor (R rm)) node (λ p. is_free_below p node ≡ true) _ (raise_is (world.floor (R rm)) node place fault)))
  raise_sinks (A a) place fault = same_floors
  raise_sinks (L l) place fault = same_floors

  hear_sinks : (notice : Notice) (fault : Fault) → NeverSinks (hear_at config world fault notice).world
  hear_sinks notice fault =
      let who = notice.receiver in
      let least = least_told config (told_with (world.told who) notice) in
      cond_both (is_manager who) _ _ (λ (r : FlooredResult). NeverSinks r.world) (λ manager. same_floors)
      (λ other. found_after world NeverSinks same_floors (node_at config world.machine who) (hear_result config world notice fault)
      (λ node is. cond_both node.up _ _ (λ (r : FlooredResult). NeverSinks r.world)
      (λ up. entry_sinks who (on_least (world.floor who) node least fault).floor
      (not_sunk (world.floor who) node (λ p. least ≡ Some p) _ (least_rise (world.floor who) node least fault)))
      (λ down. same_floors)))

  -- what a fault leaves is the floor as it was, or the place
  after_sinks : (floor : Option Place) (place : Place) (fault : Fault) → is_lower (Some place) floor ≡ false
      → is_lower (floor_after floor place fault) floor ≡ false
  after_sinks floor place NoFault high = high
  after_sinks floor place NoMemoryBefore high = high
  after_sinks floor place NoMemoryAt high = not_lower_self floor
  after_sinks floor place (RecordFails true) high = high
  after_sinks floor place (RecordFails false) high = not_lower_self floor

  replace_sinks : (who : NodeId) (place : Place) (fault : Fault) → NeverSinks (replace_at config world who place fault).world
  replace_sinks who place fault =
      cond_both (is_manager who) _ _ (λ (r : FlooredResult). NeverSinks r.world) (λ manager. same_floors)
      (λ other. found_after world NeverSinks same_floors (node_at config world.machine who) (replace_result config world who place fault)
      (λ node is. cond_both (may_replace (world.floor who) node place) _ _ (λ (r : FlooredResult). NeverSinks r.world)
      (λ may. entry_sinks who (floor_after (world.floor who) place fault)
      (after_sinks (world.floor who) place fault (not-true (is_lower (Some place) (world.floor who))
      (and_parts (not (is_lower (Some place) (world.floor who))) (is_unused_above place node) may).0)))
      (λ used. cond_both (is_unread node fault) _ world NeverSinks (λ unread. same_floors) (λ told. same_floors))))

  -- no event has a floor sink
  pub never_sinks : (event : FlooredEvent) (fault : Fault) → NeverSinks (floored_step config world event fault).world
  never_sinks event NoMemoryBefore = same_floors
  never_sinks (Machine event) fault = same_floors
  never_sinks (Raise who place) fault = raise_sinks who place fault
  never_sinks (Hear n) fault =
      found_after world NeverSinks same_floors (slice_get world.notices n) (hear_at config world fault)
      (λ notice is. hear_sinks notice fault)
  never_sinks (Replace who place) fault = replace_sinks who place fault

  raised_by : (rm : ℕ) (place : Place) (node : NodeState) → node.up ≡ true → is_lower (world.floor (R rm)) (Some place) ≡ true
      → is_free_below place node ≡ true
      → on_raise (world.floor (R rm)) node place NoFault ≡ record { node = node; floor = Some place; answer = Done }
  raised_by rm place node up higher free =
      tests node.up up (is_lower (world.floor (R rm)) (Some place)) higher (is_free_below place node) free
    where
      tests : (u : Bool) → u ≡ true → (h : Bool) → h ≡ true → (f : Bool) → f ≡ true
          → (if not u then kept_rise (world.floor (R rm)) node (Refused Down)
          else if not h then kept_rise (world.floor (R rm)) node Done
          else if not f then kept_rise (world.floor (R rm)) node (Refused Busy)
          else risen (world.floor (R rm)) node place NoFault) ≡ record { node = node; floor = Some place; answer = Done }
      tests true eu true eh true ef = refl
      tests true eu true eh false ef = absurd (cc (ef))
      tests true eu false eh f ef = absurd (cc (eh))
      tests false eu h eh f ef = absurd (cc (eu))

  module _ (rm : ℕ) (place : Place) (node : NodeState) (is : node_at config world.machine (R rm) ≡ Some node) (up : node.up ≡ true)
      (higher : is_lower (world.floor (R rm)) (Some place) ≡ true) (free : is_free_below place node ≡ true) where
    raised_is : (floored_step config world (Raise (R rm) place) NoFault)
        ≡ raise_result config world rm (record { node = node; floor = Some place; answer = Done })
    raised_is =
        ap (λ (o : Option NodeState). floored_if_found world
        (λ n. raise_result config world rm (on_raise (world.floor (R rm)) n place NoFault)) o) is
        ∙ ap (raise_result config world rm) (raised_by rm place node up higher free)

    -- a floor rises where it may
    pub rises : (floored_step config world (Raise (R rm) place) NoFault).world.floor (R rm) ≡ Some place
    rises = ap (λ (r : FlooredResult). r.world.floor (R rm)) raised_is ∙ entry_own world.floor (R rm) (Some place)

    -- and is told
    pub tells : (who : NodeId) → IsIn (told_nodes config) who
        → IsIn (floored_step config world (Raise (R rm) place) NoFault).world.notices
        (record { manager = rm; receiver = who; place = place })
    tells who h =
        subst (λ (r : FlooredResult). IsIn r.world.notices (record { manager = rm; receiver = who; place = place })) (sym raised_is)
        (IsIn-after world.notices (notices_of config rm (Some place)) (record { manager = rm; receiver = who; place = place })
        (IsIn-map (λ (n : NodeId). record { manager = rm; receiver = n; place = place }) (told_nodes config) who h))

  -- who is told has a floor no lower than the least that it was told
  module _ (n : ℕ) (notice : Notice) (node : NodeState) (there : slice_get world.notices n ≡ Some notice)
      (other : is_manager notice.receiver ≡ false) (is : node_at config world.machine notice.receiver ≡ Some node)
      (up : node.up ≡ true) where
    abbrev who : NodeId
    who = notice.receiver

    abbrev least : Option Place
    least = least_told config (told_with (world.told who) notice)

    abbrev rise : Rise
    rise = on_least (world.floor who) node least NoFault

    heard_is : (floored_step config world (Hear n) NoFault).world.floor ≡ with_entry world.floor who rise.floor
    heard_is =
        ap (λ (o : Option Notice). (floored_if_found world (hear_at config world NoFault) o).world.floor) there
        ∙ ap (λ (t : Bool). (if t then floored_answer world Done
        else floored_if_found world (hear_result config world notice NoFault) (node_at config world.machine who)).world.floor) other
        ∙ ap (λ (o : Option NodeState). (floored_if_found world (hear_result config world notice NoFault) o).world.floor) is
        ∙ ap (λ (t : Bool). (if t then floored_answer (record (with_rise config world who rise)
        { told = with_entry world.told who (told_with (world.told who) notice) }) rise.answer
        else floored_answer world (Refused Down)).world.floor) up

    enough : (to : Option Place) → is_lower (on_least (world.floor who) node to NoFault).floor to ≡ false
    enough None = not_below_none (world.floor who)
    enough (Some place) =
        cond_both (is_lower (world.floor who) (Some place)) (risen (world.floor who) node place NoFault)
        (kept_rise (world.floor who) node Done) (λ (r : Rise). is_lower r.floor (Some place) ≡ false)
        (λ lower. not_lower_self (Some place)) (λ no. no)

    pub hears : is_lower ((floored_step config world (Hear n) NoFault).world.floor who) least ≡ false
    hears =
        subst (λ (f : Option Place). is_lower f least ≡ false)
        (sym (ap (λ (floor : NodeId → Option Place). floor who) heard_is ∙ entry_own world.floor who rise.floor)) (enough least)
