-- A blank acceptor or leader that was to stand in for a lost one.
-- Needed by `Floored::may_be_replaced`, `Floored::replace` and `Floored::restart_above`; crates cluster, port and floored_groups.
use Rattle.std.proofs.Common.{◌≡◌, ◌∙◌, ◌⊎◌, inl, inr, ℕ, Bool, true, false, not, ◌&&◌, if◌then◌else◌, Option, Some, None, is_some}
use Rattle.std.proofs.Common.{refl, sym, ap, subst}
use Rattle.std.specs.Prelude.{IsTrue, List, [], Result, Ok, Err}
use Rattle.std.proofs.lemmas.Bool.{and_parts, not-true}
use Rattle.xid.specs.Places.{Place, is_lower}
use Rattle.xid.specs.declared.refusals.Refusal.{Refusal}
use Rattle.stable_record.specs.declared.fact.FactKind.{FactKind as Fact}
use Rattle.stable_record.specs.Held.{Held, IsCounted, Nature}
use Rattle.protocol.specs.declared.answers.Answer.TheVariants.{Done, Refused}
use Rattle.protocol.specs.declared.nodes.NodeId.{NodeId}
use Rattle.protocol.specs.declared.nodes.NodeId.TheVariants.{A, L, R}
use Rattle.protocol.specs.Effects.{Config}
use Rattle.protocol.specs.Nodes.{Fault, Memory, NodeState, NoFault, NoMemoryBefore, NoMemoryAt, Outcome, RecordFails, all_play}
use Rattle.protocol.specs.Nodes.{answer_outcome, compact_outcome, down_node, empty_memory, restart_outcome}
use Rattle.node_core.specs.declared.role.Role.{Role}
use Rattle.node_core.specs.Nodes.{IsSameNode, NodeParts, NodeStands, Stands}
use Rattle.node_core.specs.Opening.{BefallsRestart, HasStayed, restart_answer}
use Rattle.node_core.specs.Raising.{is_clear_below}
use Rattle.node_core.specs.Viewing.{AsksUnusedAs, IsUnread}
use Rattle.node_core.specs.Viewing as of_node
use Rattle.node_core.proofs.Risen.{stopped_stands}
use Rattle.floors.specs.Nodes.{Rise, is_unused_above, kept_rise, may_replace, not_put_in, on_replace, put_in, risen}
use Rattle.floors.specs.Worlds.{is_manager}
use Rattle.floors.proofs.Order.{same_floor}
use Rattle.forgetting.proofs.Coming.{came, compacted}
use Rattle.forgetting.proofs.Unused.{use_known}
use Rattle.floored.specs.Nodes.{BefallsReplace, BefallsRise, FlooredMayReplace, FlooredParts, FlooredRaises, FlooredReplaces}
use Rattle.floored.specs.Nodes.{FlooredRestarts, FlooredStands, IsFlooredSound, RaisesNode, floor_before, on_rise, with_floor}
use Rattle.floored.proofs.Asked.{node_same, same_self}
use Rattle.floored.proofs.Handling.{up_alike}
use Rattle.floored.proofs.Rising.{rise_done}
use Rattle.floored.proofs.Standing.{floor_same, sound_on, stands_on, stands_up}

-- ---- asked whether it may be replaced

-- where the place is lower than its floor
pub lower_asked : (place : Place) (old new : FlooredParts) → new ≡ old → is_lower (Some place) old.floor ≡ true → (config : Config)
    (m : NodeState) → FlooredStands config old m → FlooredMayReplace config m old new place (Ok false)
lower_asked place old new is low config m s =
    subst (λ (f : FlooredParts). FlooredMayReplace config m old f place (Ok false)) (sym is) (record {
      floor_is = refl;
      same = same_self old.node;
      role_is = refl;
      stands = s;
      says = inl (refl, ap (λ (t : Bool). Ok (not t && is_unused_above place m)) (sym low));
    })

module _ (old : NodeParts) (place : Place) where
  asked : (new : NodeParts) (result : Result Bool Refusal)
      → ((config : Config) (m : NodeState) → NodeStands config old m → AsksUnusedAs config m old new place result)
      → is_lower (Some place) (floor_before old.held) ≡ false → is_manager old.who ≡ false → (config : Config) (m : NodeState)
      → FlooredStands config (with_floor old) m → FlooredMayReplace config m (with_floor old) (with_floor new) place result
  asked new result asks high other config m s =
      let a = asks s.from s.few s.is in
      record {
        floor_is = floor_same old.held new.held a.same.nature_is;
        same = a.same;
        role_is = a.role_is;
        stands = stands_on config old new m s a.same s.few m
            (subst (λ (r : Option Role). Stands s.from old.who old.rows new.held r s.few) (sym a.role_is) a.asks.stands) s.above;
        says = by a.same a.role_is a.asks.says;
      }
    where
      few_is : (who : NodeId) → is_manager who ≡ false
          → of_node.is_unused_above who place s.few.facts ≡ is_unused_above place s.few
      few_is (A a) other = refl
      few_is (L l) other = refl
      few_is (R rm) other = absurd (cc (other))

      by : IsSameNode old new → new.role ≡ old.role
          → ((new.held ≡ old.held) × (result ≡ Ok (of_node.is_unused_above old.who place s.few.facts)))
          ⊎ IsUnread old.held new.held old.role result
          → ((with_floor new ≡ with_floor old) × (result ≡ Ok (may_replace (floor_before old.held) m place)))
          ⊎ IsUnread old.held new.held old.role result
      by same role (inl kept) = inl (
        ap with_floor (node_same old new same kept.0 role),
        kept.1 ∙ ap Ok (few_is old.who other)
            ∙ ap Ok (use_known s.from config (floor_before old.held) place s.few m high old.who s.above other)
            ∙ ap (λ (t : Bool). Ok (not t && is_unused_above place m)) (sym high),
      )
      by same role (inr unread) = inr unread

  pub asked_sound : (known : Option Place) (new : NodeParts) (result : Result Bool Refusal) → IsFlooredSound known old
      → ((config : Config) (m : NodeState) → NodeStands config old m → AsksUnusedAs config m old new place result)
      → IsFlooredSound known new
  asked_sound known new result sound asks =
      let s = sound.is in
      let a = asks s.from s.few s.is in
      sound_on known old new sound a.same (subst (λ (r : Option Role). is_some r ≡ true) a.role_is) sound.config sound.state
      (stands_on sound.config old new sound.state s a.same s.few sound.state
      (subst (λ (r : Option Role). Stands s.from old.who old.rows new.held r s.few) (sym a.role_is) a.asks.stands) s.above)

-- the same of a node as its callers see it
pub asked_seen : (old : NodeParts) (now : FlooredParts) → with_floor old ≡ now → (place : Place) (new : NodeParts)
    (result : Result Bool Refusal)
    → ((config : Config) (m : NodeState) → NodeStands config old m → AsksUnusedAs config m old new place result)
    → is_lower (Some place) now.floor ≡ false → is_manager now.node.who ≡ false → (config : Config) (m : NodeState)
    → FlooredStands config now m → FlooredMayReplace config m now (with_floor new) place result
asked_seen old now is place new result asks =
    subst (λ (f : FlooredParts). is_lower (Some place) f.floor ≡ false → is_manager f.node.who ≡ false → (config : Config) (m : NodeState)
    → FlooredStands config f m → FlooredMayReplace config m f (with_floor new) place result) is (asked old place new result asks)

-- ---- what comes of the machine's

module _ (config : Config) (who : NodeId) (floor : Option Place) (m : NodeState) (place : Place) where
  comes_by : (fault : Fault) (t : Bool) → may_replace floor m place ≡ t
      → on_replace config who floor m place fault
      ≡ (if t then put_in config who floor m place fault else kept_rise floor m (not_put_in config who m fault))
  comes_by fault t e =
      ap (λ (b : Bool). if b then put_in config who floor m place fault else kept_rise floor m (not_put_in config who m fault)) e

  -- of one that is down, whose record can't be read
  abbrev left_by : Bool → NodeState
  left_by t = if t then down_node m else m

  module _ (down : m.up ≡ false) (t : Bool) (e : may_replace floor m place ≡ t) where
    unread_memory : on_replace config who floor m place NoMemoryAt ≡ kept_rise floor (left_by t) (Refused Refusal.NoMemory)
    unread_memory = comes_by NoMemoryAt t e ∙ by t
      where
        by : (b : Bool) → (if b then put_in config who floor m place NoMemoryAt else kept_rise floor m (not_put_in config who m NoMemoryAt))
            ≡ kept_rise floor (left_by b) (Refused Refusal.NoMemory)
        by true = refl
        by false = ap (λ (up : Bool). kept_rise floor m (if not up then Refused Refusal.NoMemory else Refused Refusal.InUse)) down

    unread_fault : on_replace config who floor m place (RecordFails false) ≡ kept_rise floor (left_by t) (Refused Refusal.RecordFault)
    unread_fault = comes_by (RecordFails false) t e ∙ by t
      where
        by : (b : Bool)
            → (if b then put_in config who floor m place (RecordFails false)
            else kept_rise floor m (not_put_in config who m (RecordFails false)))
            ≡ kept_rise floor (left_by b) (Refused Refusal.RecordFault)
        by true = refl
        by false = ap (λ (up : Bool). kept_rise floor m (if not up then Refused Refusal.RecordFault else Refused Refusal.InUse)) down

  -- it has restarted
  abbrev come_up : NodeState
  come_up = record { facts = m.facts; up = true; tear = m.tear; memory = empty_memory }

  abbrev put_as : Outcome → Rise
  put_as left = record { node = left.node; floor = Some place; answer = left.answer }

  module _ (play : all_play config who [] m.facts ≡ true) where
    restarted_is : restart_outcome config who m NoFault ≡ answer_outcome come_up Done
    restarted_is = ap (λ (t : Bool). if t then answer_outcome come_up Done else answer_outcome (down_node m) (Refused Refusal.Damaged)) play

    -- its floor rises then, which is what comes of a replacement
    put_in_is : (fault : Fault) → put_in config who floor m place fault ≡ risen floor come_up place fault
    put_in_is NoFault = ap put_as restarted_is
    put_in_is NoMemoryBefore = ap put_as restarted_is
    put_in_is NoMemoryAt = refl
    put_in_is (RecordFails whole) = refl

-- ---- what comes of it

-- a node that is down stands for the machine's that is down
stands_down : (config : Config) (f : FlooredParts) (m : NodeState) → f.node.role ≡ None → FlooredStands config f m
    → FlooredStands config f (down_node m)
stands_down config f m none s = record {
  from = s.from;
  few = down_node s.few;
  is = record {
    sizes_are = s.is.sizes_are;
    stands = subst (λ (r : Option Role). Stands s.from f.node.who f.node.rows f.node.held r (down_node s.few)) (sym none)
        (stopped_stands s.from f.node.who f.node.rows f.node.held f.node.role s.few s.is.stands);
  };
  above = (came s.from config f.node.who f.floor s.few m s.above (compact_outcome s.few NoMemoryAt) (compact_outcome m NoMemoryAt)
      (compacted s.from config f.node.who f.floor s.few m s.above NoMemoryAt) s.is.stands.played).stands;
}

-- whether it is up
pub is_up_as : (config : Config) (f : FlooredParts) (m : NodeState) → FlooredStands config f m → is_some f.node.role ≡ m.up
is_up_as config f m s =
    stands_up s.from f.node.who f.node.rows f.node.held f.node.role s.few s.is.stands
    ∙ up_alike s.from config f.node.who f.floor s.few m s.above

other_clear : (who : NodeId) (place : Place) (facts : List Fact) (memory : Memory) → is_manager who ≡ false
    → is_clear_below who place facts memory ≡ true
other_clear (A a) place facts memory other = refl
other_clear (L l) place facts memory other = refl
other_clear (R rm) place facts memory other = absurd (cc (other))

module _ (config : Config) (m : NodeState) (place : Place) (old : FlooredParts) (s : FlooredStands config old m) where
  abbrev comes : Fault → Rise
  comes fault = on_replace config old.node.who old.floor m place fault

  -- by what the machine's node does
  replaces_as : (new : FlooredParts) (result : Result (Unit {0}) Refusal) → IsSameNode old.node new.node → (fault : Fault) (rise : Rise)
      → BefallsReplace old.node.held new.node.held fault → comes fault ≡ rise → new.floor ≡ rise.floor
      → restart_answer result ≡ rise.answer → FlooredStands config new rise.node → FlooredReplaces config m place old new result
  replaces_as new result same fault rise befalls does floor answer stands = record {
    who_is = same.who_is;
    sizes_are = same.sizes_are;
    rows_are = same.rows_are;
    may_fail_is = ap (λ (n : Nature). n.may_fail) same.nature_is;
    fault = fault;
    befalls = befalls;
    floor_is = floor ∙ ap (λ (r : Rise). r.floor) (sym does);
    answer_is = answer ∙ ap (λ (r : Rise). r.answer) (sym does);
    stands = subst (λ (r : Rise). FlooredStands config new r.node) (sym does) stands;
  }

  -- ---- its record couldn't be read, or it may not be replaced

  pub unread_replaces : (new : FlooredParts) (refusal : Refusal) → FlooredMayReplace config m old new place (Err refusal)
      → FlooredReplaces config m place old new (Err refusal)
  unread_replaces new refusal a = by (Err refusal) refl a.says
    where
      t : Bool
      t = may_replace old.floor m place

      by_test : new.node.role ≡ None → (b : Bool) → FlooredStands config new (if b then down_node m else m)
      by_test none true = stands_down config new m none a.stands
      by_test none false = a.stands

      down : old.node.role ≡ None → m.up ≡ false
      down none = sym (is_up_as config old m s) ∙ ap is_some none

      by : (result : Result Bool Refusal) → result ≡ Err refusal
          → ((new ≡ old) × (result ≡ Ok t)) ⊎ IsUnread old.node.held new.node.held old.node.role result
          → FlooredReplaces config m place old new (Err refusal)
      by result is (inl (same, e)) = absurd (cc (is, e))
      by result is (inr (none, inl (e, failed))) =
          let fault_is : refusal ≡ Refusal.RecordFault = cc (is, e) in
          replaces_as new (Err refusal) a.same (RecordFails false)
          (kept_rise old.floor (left_by config old.node.who old.floor m place t) (Refused Refusal.RecordFault))
          (record { may = failed.may; counted = failed.counted; armed = failed.armed })
          (unread_fault config old.node.who old.floor m place (down none) t refl) a.floor_is (ap Refused fault_is)
          (by_test (a.role_is ∙ none) t)
      by result is (inr (none, inr (e, same))) =
          let memory_is : refusal ≡ Refusal.NoMemory = cc (is, e) in
          replaces_as new (Err refusal) a.same NoMemoryAt
          (kept_rise old.floor (left_by config old.node.who old.floor m place t) (Refused Refusal.NoMemory))
          (ap (λ (h : Held). h.faults) same, ap (λ (h : Held). h.armed) same)
          (unread_memory config old.node.who old.floor m place (down none) t refl) a.floor_is (ap Refused memory_is)
          (by_test (a.role_is ∙ none) t)

  -- where that was told
  record IsTold (new : FlooredParts) (answer : Bool) : Type 0 where
    pub same : new ≡ old
    pub may : may_replace old.floor m place ≡ answer

  told : (new : FlooredParts) (answer : Bool) → FlooredMayReplace config m old new place (Ok answer) → IsTold new answer
  told new answer a = by (Ok answer) refl a.says
    where
      by : (result : Result Bool Refusal) → result ≡ Ok answer
          → ((new ≡ old) × (result ≡ Ok (may_replace old.floor m place))) ⊎ IsUnread old.node.held new.node.held old.node.role result
          → IsTold new answer
      by result is (inl (same, e)) =
          let answer_is : may_replace old.floor m place ≡ answer = cc (is, e) in record { same = same; may = answer_is }
      by result is (inr (none, inl (e, failed))) = absurd (cc (is, e))
      by result is (inr (none, inr (e, same))) = absurd (cc (is, e))

  pub refused_replaces : (new : FlooredParts) → FlooredMayReplace config m old new place (Ok false)
      → FlooredReplaces config m place old new (Err Refusal.InUse)
  refused_replaces new a =
      let is = told new false a in
      replaces_as new (Err Refusal.InUse) a.same NoFault (kept_rise old.floor m (Refused Refusal.InUse)) (
        ap (λ (f : FlooredParts). f.node.held.faults) is.same,
        ap (λ (f : FlooredParts). f.node.held.armed) is.same,
      ) (comes_by config old.node.who old.floor m place NoFault false is.may) a.floor_is refl a.stands

  -- ---- it restarts

  module _ (may : may_replace old.floor m place ≡ true) where
    put_in_comes : (fault : Fault) → comes fault ≡ put_in config old.node.who old.floor m place fault
    put_in_comes fault = comes_by config old.node.who old.floor m place fault true may

    play : all_play config old.node.who [] m.facts ≡ true
    play = s.above.all_play_too

    abbrev up_again : NodeState
    up_again = come_up config old.node.who old.floor m place

    pub down_replaces : (new : FlooredParts) (refusal : Refusal) → FlooredRestarts config m old new (Err refusal)
        → FlooredReplaces config m place old new (Err refusal)
    down_replaces new refusal r = by r.fault r.befalls r.answer_is r.stands
      where
        by : (fault : Fault) → BefallsRestart old.node.held new.node.held fault
            → Refused refusal ≡ (restart_outcome config old.node.who m fault).answer
            → FlooredStands config new (restart_outcome config old.node.who m fault).node
            → FlooredReplaces config m place old new (Err refusal)
        by NoFault befalls answer stands =
            let done : Refused refusal ≡ Done =
            answer ∙ ap (λ (o : Outcome). o.answer) (restarted_is config old.node.who old.floor m place play) in
            absurd (cc (done))
        by NoMemoryBefore befalls answer stands = absurd befalls
        by NoMemoryAt stayed answer stands =
            replaces_as new (Err refusal) r.same NoMemoryAt (put_in config old.node.who old.floor m place NoMemoryAt)
            (stayed.faults, stayed.armed) (put_in_comes NoMemoryAt) r.floor_is answer stands
        by (RecordFails whole) failed answer stands =
            replaces_as new (Err refusal) r.same (RecordFails false) (put_in config old.node.who old.floor m place (RecordFails false))
            (record { may = failed.may; counted = failed.counted; armed = failed.armed }) (put_in_comes (RecordFails false)) r.floor_is
            answer stands

    -- it is up again
    record IsUpAgain (new : FlooredParts) : Type 0 where
      pub stayed : HasStayed old.node.held new.node.held
      pub stands : FlooredStands config new up_again

    up_is_again : (new : FlooredParts) → FlooredRestarts config m old new (Ok tt) → IsUpAgain new
    up_is_again new r = by r.fault r.befalls r.answer_is r.stands
      where
        by : (fault : Fault) → BefallsRestart old.node.held new.node.held fault
            → Done ≡ (restart_outcome config old.node.who m fault).answer
            → FlooredStands config new (restart_outcome config old.node.who m fault).node → IsUpAgain new
        by NoFault stayed answer stands = record {
          stayed = stayed;
          stands = subst (λ (o : Outcome). FlooredStands config new o.node) (restarted_is config old.node.who old.floor m place play)
              stands;
        }
        by NoMemoryBefore befalls answer stands = absurd befalls
        by NoMemoryAt befalls answer stands = absurd (cc (answer))
        by (RecordFails whole) befalls answer stands = absurd (cc (answer))

    -- ---- and its floor rises

    both_befall : (mid new : Held) → HasStayed old.node.held mid → (fault : Fault) → BefallsRise mid new fault
        → BefallsReplace old.node.held new fault
    both_befall mid new stayed NoFault (faults, armed) = (faults ∙ stayed.faults, armed ∙ stayed.armed)
    both_befall mid new stayed NoMemoryBefore befalls = absurd befalls
    both_befall mid new stayed NoMemoryAt same =
        (ap (λ (h : Held). h.faults) same ∙ stayed.faults, ap (λ (h : Held). h.armed) same ∙ stayed.armed)
    both_befall mid new stayed (RecordFails whole) counted = record {
      may = subst (λ (n : Nature). IsTrue n.may_fail) stayed.nature counted.may;
      counted = subst (λ (n : ℕ). IsCounted n new.faults) stayed.faults counted.counted;
      armed = counted.armed ∙ stayed.armed;
    }

    module _ (other : is_manager old.node.who ≡ false) (mid new : FlooredParts) (result : Result (Unit {0}) Refusal)
        (restarts : FlooredRestarts config m old mid (Ok tt)) (again : IsUpAgain mid)
        (raises : FlooredRaises config up_again place mid new result) (node : RaisesNode place mid new result)
        (nature : new.node.held.nature.may_fail ≡ mid.node.held.nature.may_fail) where
      replaces_then : (fault : Fault) (rise : Rise) → BefallsReplace old.node.held new.node.held fault → comes fault ≡ rise
          → new.floor ≡ rise.floor → restart_answer result ≡ rise.answer → FlooredStands config new rise.node
          → FlooredReplaces config m place old new result
      replaces_then fault rise befalls does floor answer stands = record {
        who_is = raises.who_is ∙ restarts.same.who_is;
        sizes_are = raises.sizes_are ∙ restarts.same.sizes_are;
        rows_are = raises.rows_are ∙ restarts.same.rows_are;
        may_fail_is = nature ∙ ap (λ (n : Nature). n.may_fail) restarts.same.nature_is;
        fault = fault;
        befalls = befalls;
        floor_is = floor ∙ ap (λ (r : Rise). r.floor) (sym does);
        answer_is = answer ∙ ap (λ (r : Rise). r.answer) (sym does);
        stands = subst (λ (r : Rise). FlooredStands config new r.node) (sym does) stands;
      }

      -- what its rise comes to
      higher_replaces : is_lower mid.floor (Some place) ≡ true → FlooredReplaces config m place old new result
      higher_replaces high =
          let fault = raises.fault in
          let mid_other = ap is_manager restarts.same.who_is ∙ other in
          let does = rise_done mid.floor up_again place fault mid.node.who refl high
          (other_clear mid.node.who place up_again.facts up_again.memory mid_other) in
          replaces_then fault (on_rise mid.node.who mid.floor up_again place fault)
          (both_befall mid.node.held new.node.held again.stayed fault raises.befalls)
          (put_in_comes fault ∙ put_in_is config old.node.who old.floor m place play fault
          ∙ ap (λ (f : Option Place). risen f up_again place fault) (sym restarts.floor_is) ∙ sym does) raises.floor_is raises.answer_is
          raises.stands

      -- the place is its floor, and nothing is left to do
      same_replaces : is_lower mid.floor (Some place) ≡ false → FlooredReplaces config m place old new result
      same_replaces low =
          let done = node.low (is_up_as config mid up_again again.stands) low in
          let high = (and_parts (not (is_lower (Some place) old.floor)) (is_unused_above place m) may).0 in
          let back : is_lower (Some place) mid.floor ≡ false =
          ap (is_lower (Some place)) restarts.floor_is ∙ not-true (is_lower (Some place) old.floor) high in
          replaces_then NoFault (risen old.floor up_again place NoFault) (
            ap (λ (f : FlooredParts). f.node.held.faults) done.1 ∙ again.stayed.faults,
            ap (λ (f : FlooredParts). f.node.held.armed) done.1 ∙ again.stayed.armed,
          ) (put_in_comes NoFault ∙ put_in_is config old.node.who old.floor m place play NoFault)
          (ap (λ (f : FlooredParts). f.floor) done.1 ∙ same_floor mid.floor place low back) (ap restart_answer done.0)
          (subst (λ (f : FlooredParts). FlooredStands config f up_again) (sym done.1) again.stands)

      both_replace : FlooredReplaces config m place old new result
      both_replace = by (is_lower mid.floor (Some place)) refl
        where
          by : (t : Bool) → is_lower mid.floor (Some place) ≡ t → FlooredReplaces config m place old new result
          by true high = higher_replaces high
          by false low = same_replaces low

-- ---- the whole

pub up_then : (config : Config) (m : NodeState) (place : Place) (old mid new : FlooredParts) (result : Result (Unit {0}) Refusal)
    → is_manager old.node.who ≡ false → (s : FlooredStands config old m) → may_replace old.floor m place ≡ true
    → FlooredRestarts config m old mid (Ok tt)
    → ((c : Config) (n : NodeState) → FlooredStands c mid n → FlooredRaises c n place mid new result) → RaisesNode place mid new result
    → new.node.held.nature.may_fail ≡ mid.node.held.nature.may_fail → FlooredReplaces config m place old new result
up_then config m place old mid new result other s may restarts raises node nature =
    let again = up_is_again config m place old s may mid restarts in
    both_replace config m place old s may other mid new result restarts again
    (raises config (up_again config m place old s may) again.stands) node nature

-- what was asked left it as it was
pub asked_then : (config : Config) (m : NodeState) (place : Place) (old after new : FlooredParts) (result : Result (Unit {0}) Refusal)
    → is_manager old.node.who ≡ false → FlooredStands config old m → FlooredMayReplace config m old after place (Ok true)
    → (is_manager after.node.who ≡ false → (c : Config) (n : NodeState) → FlooredStands c after n → may_replace after.floor n place ≡ true
    → FlooredReplaces c n place after new result)
    → FlooredReplaces config m place old new result
asked_then config m place old after new result other s a replaces =
    let is = told config m place old s after true a in
    subst (λ (f : FlooredParts). FlooredReplaces config m place f new result) is.same
    (replaces (ap (λ (f : FlooredParts). is_manager f.node.who) is.same ∙ other) config m a.stands
    (ap (λ (f : FlooredParts). may_replace f.floor m place) is.same ∙ is.may))
