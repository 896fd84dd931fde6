-- A node whose floor was to rise.
-- Needed by `Floored::raise`; Replacing and Seen.
use Rattle.std.proofs.Common.{◌≡◌, ◌∙◌, inl, inr, ℕ, Bool, true, false, ◌&&◌, not, if◌then◌else◌, List, Option, Some, None, is_some}
use Rattle.std.proofs.Common.{refl, sym, ap, subst}
use Rattle.std.specs.Prelude.{Result, Ok, Err}
use Rattle.std.specs.List.{list_all}
use Rattle.std.proofs.lemmas.Bool.{and_parts}
use Rattle.xid.specs.Places.{Place, is_below, is_lower, is_xid_below}
use Rattle.xid.specs.declared.refusals.Refusal.{Refusal}
use Rattle.xid.proofs.Places.{not_back}
use Rattle.stable_record.specs.Behind.{BehindParts, IsFronting}
use Rattle.stable_record.specs.Held.{Held}
use Rattle.protocol.specs.declared.answers.Answer.TheVariants.{Done, Refused}
use Rattle.protocol.specs.declared.nodes.NodeId.{NodeId}
use Rattle.protocol.specs.declared.nodes.NodeId.TheVariants.{A, L, R}
use Rattle.protocol.specs.declared.rows.Row.{Row}
use Rattle.protocol.specs.Effects.{Config}
use Rattle.protocol.specs.Facts.{bound_branches}
use Rattle.protocol.specs.Nodes.{Fault, NodeState, NoFault, NoMemoryAt, RecordFails, compact_outcome, down_node}
use Rattle.resource_manager.specs.Left.{AreAlike, left_node}
use Rattle.node_core.specs.declared.role.Role.{Role}
use Rattle.node_core.specs.Nodes.{AreSizes, NodeParts, NodeStands, Stands}
use Rattle.node_core.specs.Opening.{restart_answer}
use Rattle.node_core.specs.Raising.{HasCountedFault, IsRaised, IsRaisedOrNot, Raises, RaisesAs, is_clear_below}
use Rattle.node_core.proofs.Risen.{sized_alike, stopped_stands}
use Rattle.floors.specs.Nodes.{Rise, is_free_below, kept_rise, on_least, on_raise, risen}
use Rattle.forgetting.specs.Above.{StandsAbove}
use Rattle.forgetting.proofs.Coming.{came, compacted}
use Rattle.forgetting.proofs.Left.{left_stands, same_free}
use Rattle.floored.specs.Nodes.{BefallsRise, FlooredRaises, FlooredStands, IsFlooredSound, floor_before, on_rise, with_floor}
use Rattle.floored.proofs.Handling.{up_alike}
use Rattle.floored.proofs.Standing.{floor_found, fronting_found}

-- ---- what the machine's does

module _ (floor : Option Place) (m : NodeState) (place : Place) (fault : Fault) where
  -- by whether it is up, whether the place is higher, and whether no branch is below that
  manager_by : (up higher free : Bool) → m.up ≡ up → is_lower floor (Some place) ≡ higher → is_free_below place m ≡ free
      → on_raise floor m place fault
      ≡ (if not up then kept_rise floor m (Refused Refusal.Down)
      else if not higher then kept_rise floor m Done
      else if not free then kept_rise floor m (Refused Refusal.Busy)
      else risen floor m place fault)
  manager_by up higher free e f h = λ k.
      if not (e k) then kept_rise floor m (Refused Refusal.Down)
      else if not (f k) then kept_rise floor m Done
      else if not (h k) then kept_rise floor m (Refused Refusal.Busy)
      else risen floor m place fault

  other_by : (up higher : Bool) → m.up ≡ up → is_lower floor (Some place) ≡ higher
      → (if m.up then on_least floor m (Some place) fault else kept_rise floor m (Refused Refusal.Down))
      ≡ (if up then if higher then risen floor m place fault else kept_rise floor m Done else kept_rise floor m (Refused Refusal.Down))
  other_by up higher e f = λ k.
      if e k then if f k then risen floor m place fault else kept_rise floor m Done else kept_rise floor m (Refused Refusal.Down)

  pub rise_down : (who : NodeId) → m.up ≡ false → on_rise who floor m place fault ≡ kept_rise floor m (Refused Refusal.Down)
  rise_down (A a) down = other_by false (is_lower floor (Some place)) down refl
  rise_down (L l) down = other_by false (is_lower floor (Some place)) down refl
  rise_down (R rm) down = manager_by false (is_lower floor (Some place)) (is_free_below place m) down refl refl

  pub rise_busy : (who : NodeId) → m.up ≡ true → is_lower floor (Some place) ≡ true → is_clear_below who place m.facts m.memory ≡ false
      → on_rise who floor m place fault ≡ kept_rise floor m (Refused Refusal.Busy)
  rise_busy (A a) up high held = absurd (cc (held))
  rise_busy (L l) up high held = absurd (cc (held))
  rise_busy (R rm) up high held = manager_by true true false up high held

  pub rise_done : (who : NodeId) → m.up ≡ true → is_lower floor (Some place) ≡ true → is_clear_below who place m.facts m.memory ≡ true
      → on_rise who floor m place fault ≡ risen floor m place fault
  rise_done (A a) up high clear = other_by true true up high
  rise_done (L l) up high clear = other_by true true up high
  rise_done (R rm) up high clear = manager_by true true true up high clear

-- ---- what is left stands above the place

clear_alike : (from config : Config) (who : NodeId) (floor : Option Place) (place : Place) (few m : NodeState)
    → StandsAbove from config who floor few m → is_clear_below who place few.facts few.memory ≡ is_clear_below who place m.facts m.memory
clear_alike from config (A a) floor place few m above = refl
clear_alike from config (L l) floor place few m above = refl
clear_alike from config (R rm) floor place few m above = same_free from config rm floor place few m above

-- clear by facts and branches, it is clear by the facts alone
clear_down : (who : NodeId) (place : Place) (few : NodeState) → is_clear_below who place few.facts few.memory ≡ true
    → is_clear_below who place (down_node few).facts (down_node few).memory ≡ true
clear_down (A a) place few clear = refl
clear_down (L l) place few clear = refl
clear_down (R rm) place few clear = λ k.
    (and_parts (list_all (λ bound. not (is_below (Some place) bound.tx)) (bound_branches few.facts))
    (list_all (λ branch. not (is_xid_below (Some place) branch.xid)) few.memory.branches) clear).0 k && true

free_of : (who : NodeId) (place : Place) (few : NodeState) → is_clear_below who place few.facts few.memory ≡ true → (rm : ℕ) → who ≡ R rm
    → is_free_below place few ≡ true
free_of who place few clear rm is = subst (λ (w : NodeId). is_clear_below w place few.facts few.memory ≡ true) is clear

alike_twice : (who : NodeId) (next from config : Config) → AreAlike who next from → AreAlike who from config → AreAlike who next config
alike_twice (A a) next from config one two = one ∙ two
alike_twice (L l) next from config one two = one ∙ two
alike_twice (R rm) next from config one two = one ∙ ap (λ (c : Config). record c { tables = next.tables }) two

-- ---- the whole node

module _ (config : Config) (m : NodeState) (place : Place) (old new : NodeParts) (s : FlooredStands config (with_floor old) m)
    (before after : BehindParts) (who_is : new.who ≡ old.who) (sizes_are : new.sizes ≡ old.sizes) (rows_are : new.rows ≡ old.rows)
    (before_is : before.held ≡ old.held) (after_is : after.held ≡ new.held) where
  abbrev floor : Option Place
  floor = floor_before old.held

  few_up : s.few.up ≡ m.up
  few_up = up_alike s.from config old.who floor s.few m s.above

  clear_of : (b : Bool) → is_clear_below old.who place s.few.facts s.few.memory ≡ b → is_clear_below old.who place m.facts m.memory ≡ b
  clear_of b clear = sym (clear_alike s.from config old.who floor place s.few m s.above) ∙ clear

  -- it stands for a node where it stands above the floor that it has now
  floored_stands : (from : Config) (few later : NodeState) (now : Option Place) → floor_before new.held ≡ now → AreSizes from old.sizes
      → Stands from old.who old.rows after.held new.role few → StandsAbove from config old.who now few later
      → FlooredStands config (with_floor new) later
  floored_stands from few later now is sized stands above = record {
    from = from;
    few = few;
    is = record {
      sizes_are = subst (AreSizes from) (sym sizes_are) sized;
      stands = subst (λ (who : NodeId). Stands from who new.rows new.held new.role few) (sym who_is)
          (subst (λ (rows : List Row). Stands from old.who rows new.held new.role few) (sym rows_are)
          (subst (λ (held : Held). Stands from old.who old.rows held new.role few) after_is stands));
    };
    above = subst (λ (who : NodeId). StandsAbove from config who (floor_before new.held) few later) (sym who_is)
        (subst (λ (f : Option Place). StandsAbove from config old.who f few later) (sym is) above);
  }

  -- ---- the floor that it has now

  fronting_now : IsFronting after.floor after.held → IsFronting after.floor new.held
  fronting_now = subst (IsFronting after.floor) after_is

  floor_now : IsFronting after.floor after.held → floor_before new.held ≡ after.floor
  floor_now fronting = floor_found after.floor new.held (fronting_now fronting)

  floor_stayed : after ≡ before → floor_before new.held ≡ floor
  floor_stayed same = ap floor_before (sym after_is ∙ ap (λ (b : BehindParts). b.held) same ∙ before_is)

  -- ---- it is as it was

  kept_stands : after ≡ before → new.role ≡ old.role → FlooredStands config (with_floor new) m
  kept_stands same role =
      floored_stands s.from s.few m floor (floor_stayed same) s.is.sizes_are
      (subst (λ (r : Option Role). Stands s.from old.who old.rows after.held r s.few) (sym role)
      (subst (λ (held : Held). Stands s.from old.who old.rows held old.role s.few)
      (sym (ap (λ (b : BehindParts). b.held) same ∙ before_is)) s.is.stands)) s.above

  kept_raises : (refusal : Refusal) (rise : Rise) → on_rise old.who floor m place NoFault ≡ rise
      → rise ≡ kept_rise floor m (Refused refusal) → after ≡ before → new.role ≡ old.role
      → FlooredRaises config m place (with_floor old) (with_floor new) (Err refusal)
  kept_raises refusal rise does is same role =
      let whole : kept_rise floor m (Refused refusal) ≡ on_rise old.who floor m place NoFault = sym (does ∙ is) in
      let held : new.held ≡ old.held = sym after_is ∙ ap (λ (b : BehindParts). b.held) same ∙ before_is in
      record {
        who_is = who_is;
        sizes_are = sizes_are;
        rows_are = rows_are;
        fault = NoFault;
        befalls = (ap (λ (h : Held). h.faults) held, ap (λ (h : Held). h.armed) held);
        floor_is = floor_stayed same ∙ ap (λ (r : Rise). r.floor) whole;
        answer_is = ap (λ (r : Rise). r.answer) whole;
        stands = subst (λ (r : Rise). FlooredStands config (with_floor new) r.node) whole (kept_stands same role);
      }

  -- ---- it rose

  module _ (few later : NodeState) (role : StandsAbove s.from config old.who floor few later)
      (clear : is_clear_below old.who place few.facts few.memory ≡ true) (high : is_lower floor (Some place) ≡ true)
      (is : IsRaised s.from old.who old.rows few place after new.role) where
    risen_floor : floor_before new.held ≡ Some place
    risen_floor = floor_now is.fronting ∙ is.floor_is

    risen_stands : FlooredStands config (with_floor new) later
    risen_stands =
        floored_stands is.next (left_node old.who (Some place) few) later (Some place) risen_floor
        (sized_alike old.who s.from is.next old.sizes is.goes_on.alike s.is.sizes_are) is.stands
        (left_stands s.from config is.next floor place few later (not_back floor (Some place) high) old.who role
        (free_of old.who place few clear) (alike_twice old.who is.next s.from config is.goes_on.alike role.alike) is.goes_on.begins)

  -- both down
  down_above : StandsAbove s.from config old.who floor (down_node s.few) (down_node m)
  down_above =
      (came s.from config old.who floor s.few m s.above (compact_outcome s.few NoMemoryAt) (compact_outcome m NoMemoryAt)
      (compacted s.from config old.who floor s.few m s.above NoMemoryAt) s.is.stands.played).stands

  -- what is made of it, by what the machine's node does
  raises_as : (fault : Fault) (result : Result (Unit {0}) Refusal) (rise : Rise) → BefallsRise old.held new.held fault
      → on_rise old.who floor m place fault ≡ rise → floor_before new.held ≡ rise.floor → restart_answer result ≡ rise.answer
      → FlooredStands config (with_floor new) rise.node → FlooredRaises config m place (with_floor old) (with_floor new) result
  raises_as fault result rise befalls does floor_is answer stands = record {
    who_is = who_is;
    sizes_are = sizes_are;
    rows_are = rows_are;
    fault = fault;
    befalls = befalls;
    floor_is = floor_is ∙ ap (λ (r : Rise). r.floor) (sym does);
    answer_is = answer ∙ ap (λ (r : Rise). r.answer) (sym does);
    stands = subst (λ (r : Rise). FlooredStands config (with_floor new) r.node) (sym does) stands;
  }

  module _ (high : is_lower floor (Some place) ≡ true) where
    does_rise : (fault : Fault) → s.few.up ≡ true → is_clear_below old.who place s.few.facts s.few.memory ≡ true
        → on_rise old.who floor m place fault ≡ risen floor m place fault
    does_rise fault up clear = rise_done floor m place fault old.who (sym few_up ∙ up) high (clear_of true clear)

    counted_now : HasCountedFault before.held after.held → HasCountedFault old.held new.held
    counted_now counted =
        subst (λ (h : Held). HasCountedFault h new.held) before_is (subst (HasCountedFault before.held) after_is counted)

    raises_by : (result : Result (Unit {0}) Refusal)
        → Raises s.from old.who old.rows s.few place before after old.role new.role result
        → FlooredRaises config m place (with_floor old) (with_floor new) result
    raises_by (Ok tt) (up, clear, faults, armed, is) =
        raises_as NoFault (Ok tt) (risen floor m place NoFault) (
          ap (λ (h : Held). h.faults) (sym after_is) ∙ faults ∙ ap (λ (h : Held). h.faults) before_is,
          ap (λ (h : Held). h.armed) (sym after_is) ∙ armed ∙ ap (λ (h : Held). h.armed) before_is,
        ) (does_rise NoFault up clear)
        (risen_floor s.few m s.above clear high is) refl (risen_stands s.few m s.above clear high is)
    raises_by (Err Refusal.Down) (down, same, role) =
        kept_raises Refusal.Down _ (rise_down floor m place NoFault old.who (sym few_up ∙ down)) refl same role
    raises_by (Err Refusal.Busy) (up, clear, same, role) =
        kept_raises Refusal.Busy _ (rise_busy floor m place NoFault old.who (sym few_up ∙ up) high (clear_of false clear)) refl same role
    raises_by (Err Refusal.RecordFault) (up, clear, none, counted, stood, either) = by either
      where
        by : IsRaisedOrNot s.from old.who old.rows s.few place before after new.role
            → FlooredRaises config m place (with_floor old) (with_floor new) (Err Refusal.RecordFault)
        by (inl (same, fronting, stands)) =
            let stayed : floor_before new.held ≡ floor =
            floor_now fronting ∙ same ∙ sym (floor_found before.floor before.held stood) ∙ ap floor_before before_is in
            raises_as (RecordFails false) (Err Refusal.RecordFault) (risen floor m place (RecordFails false)) (counted_now counted)
            (does_rise (RecordFails false) up clear) stayed refl
            (floored_stands s.from (down_node s.few) (down_node m) floor stayed s.is.sizes_are stands down_above)
        by (inr is) =
            raises_as (RecordFails true) (Err Refusal.RecordFault) (risen floor m place (RecordFails true)) (counted_now counted)
            (does_rise (RecordFails true) up clear)
            (risen_floor (down_node s.few) (down_node m) down_above (clear_down old.who place s.few clear) high is) refl
            (risen_stands (down_node s.few) (down_node m) down_above (clear_down old.who place s.few clear) high is)
    raises_by (Err Refusal.NoMemory) (up, clear, same, none) =
        let held : after.held ≡ old.held = ap (λ (b : BehindParts). b.held) same ∙ before_is in
        raises_as NoMemoryAt (Err Refusal.NoMemory) (risen floor m place NoMemoryAt) (sym after_is ∙ held)
        (does_rise NoMemoryAt up clear) (floor_stayed same) refl
        (floored_stands s.from (down_node s.few) (down_node m) floor (floor_stayed same) s.is.sizes_are
        (subst (λ (r : Option Role). Stands s.from old.who old.rows after.held r (down_node s.few)) (sym none)
        (subst (λ (h : Held). Stands s.from old.who old.rows h None (down_node s.few)) (sym held)
        (stopped_stands s.from old.who old.rows old.held old.role s.few s.is.stands))) down_above)
    raises_by (Err other) is = absurd is

-- ---- as it is seen

pub raises_from : (old new : NodeParts) (place : Place) (result : Result (Unit {0}) Refusal)
    → is_lower (floor_before old.held) (Some place) ≡ true
    → ((config : Config) (m : NodeState) → NodeStands config old m → RaisesAs config m place old new result)
    → (config : Config) (m : NodeState) → FlooredStands config (with_floor old) m
    → FlooredRaises config m place (with_floor old) (with_floor new) result
raises_from old new place result high raises config m s =
    let r = raises s.from s.few s.is in
    raises_by config m place old new s r.before r.after r.who_is r.sizes_are r.rows_are r.before_is r.after_is high result r.raises

-- ---- it knows its floor

module _ (known : Option Place) (old new : NodeParts) (place : Place) (sound : IsFlooredSound known old)
    (high : is_lower (floor_before old.held) (Some place) ≡ true) where
  abbrev pub known_after : Result (Unit {0}) Refusal → Option Place
  known_after (Ok done) = Some place
  known_after (Err refusal) = known

  -- while it is up, the floor that it knows is the one in front
  record IsKnown (now : Option Place) : Type 0 where
    pub front : IsFronting (floor_before new.held) new.held
    pub known_is : is_some new.role ≡ true → now ≡ floor_before new.held

  known_by : (result : Result (Unit {0}) Refusal)
      → (r : RaisesAs sound.is.from sound.is.few place old new result)
      → Raises sound.is.from old.who old.rows sound.is.few place r.before r.after old.role new.role result
      → IsKnown (known_after result)
  known_by result r is = by result is
    where
      held_same : r.after ≡ r.before → new.held ≡ old.held
      held_same same = sym r.after_is ∙ ap (λ (b : BehindParts). b.held) same ∙ r.before_is

      fronts : IsFronting r.after.floor r.after.held → IsFronting (floor_before new.held) new.held
      fronts fronting = fronting_found r.after.floor new.held (subst (IsFronting r.after.floor) r.after_is fronting)

      same_front : r.after ≡ r.before → IsFronting (floor_before new.held) new.held
      same_front same = subst (λ (h : Held). IsFronting (floor_before h) h) (sym (held_same same)) sound.front

      none_up : {now : Option Place} → new.role ≡ None → is_some new.role ≡ true → now ≡ floor_before new.held
      none_up none up = let down : is_some new.role ≡ false = ap is_some none in absurd (cc (down, up))

      as_it_was : r.after ≡ r.before → new.role ≡ old.role → IsKnown known
      as_it_was same role = record {
        front = same_front same;
        known_is = λ up. sound.known_is (sym (ap is_some role) ∙ up) ∙ ap floor_before (sym (held_same same));
      }

      either_front : IsRaisedOrNot sound.is.from old.who old.rows sound.is.few place r.before r.after new.role
          → IsFronting r.after.floor r.after.held
      either_front (inl (same, fronting, stands)) = fronting
      either_front (inr is) = is.fronting

      by : (x : Result (Unit {0}) Refusal) → Raises sound.is.from old.who old.rows sound.is.few place r.before r.after old.role new.role x
          → IsKnown (known_after x)
      by (Ok done) (up, clear, faults, armed, is) = record {
        front = fronts is.fronting;
        known_is = λ on.
            sym is.floor_is ∙ sym (floor_found r.after.floor new.held (subst (IsFronting r.after.floor) r.after_is is.fronting));
      }
      by (Err Refusal.Down) (down, same, role) = as_it_was same role
      by (Err Refusal.Busy) (up, clear, same, role) = as_it_was same role
      by (Err Refusal.RecordFault) (up, clear, none, counted, stood, either) =
          record { front = fronts (either_front either); known_is = none_up none }
      by (Err Refusal.NoMemory) (up, clear, same, none) = record { front = same_front same; known_is = none_up none }
      by (Err other) is = absurd is

  pub sound_raise : (result : Result (Unit {0}) Refusal)
      → ((config : Config) (m : NodeState) → NodeStands config old m → RaisesAs config m place old new result)
      → IsFlooredSound (known_after result) new
  sound_raise result raises =
      let r = raises sound.is.from sound.is.few sound.is.is in
      let is = known_by result r r.raises in
      let came = raises_from old new place result high raises sound.config sound.state sound.is in
      record {
        front = is.front;
        known_is = is.known_is;
        config = sound.config;
        state = (on_rise old.who (floor_before old.held) sound.state place came.fault).node;
        is = came.stands;
      }
