-- What comes of an event where each node has a floor is what a trace may tell, its notices too.
use Rattle.std.proofs.Common.{◌≡◌, inl, inr, ◌∙◌, ℕ, zero, suc, Bool, true, false, not, if◌then◌else◌, List, [], ◌∷◌}
use Rattle.std.proofs.Common.{length, Option, Some, None, refl, sym, ap, subst, arith}
use Rattle.std.specs.Prelude.{slice_get}
use Rattle.std.specs.List.{AllByRecursion}
use Rattle.std.specs.Option.{ForSome}
use Rattle.std.proofs.lemmas.Bool.{cond_both}
use Rattle.xid.specs.Places.{Place, is_lower}
use Rattle.xid.specs.declared.refusals.Refusal.TheVariants.{Down, NoSuch}
use Rattle.ballot.specs.Greatest.{IsIn}
use Rattle.protocol.specs.declared.requests.Request.TheVariants as requests
use Rattle.safety.specs.Vocabulary.{Answer, Ask, Change, Compact, Deliver, Done, Event, Hear, Lose, NodeId, R, Raise, Refused, Replace}
use Rattle.safety.specs.Vocabulary.{Request, Restart, Start, Put, Del, Get, End, EndFail, Rollback}
use Rattle.protocol.specs.Effects.{Config}
use Rattle.protocol.specs.Nodes.{NodeState, Asked, Fault, NoMemoryBefore, NoMemoryAt, Outcome, RecordFails, all_play, restart_outcome}
use Rattle.protocol.specs.Worlds.{Datagram, Occurrence, datagram_at, node_at}
use Rattle.safety.specs.Forms as forms
use Rattle.safety.specs.Forms.{IsWellReached}
use Rattle.safety.proofs.WellFormed.Runs.{well_reached_after}
use Rattle.floors.specs.Nodes.{Rise, forgotten_answer, is_free_below, is_unread, kept_rise, may_replace, not_put_in, on_least, on_raise}
use Rattle.floors.specs.Nodes.{risen}
use Rattle.floors.specs.Worlds as floored
use Rattle.floors.specs.Worlds.{FlooredResult, FlooredWorld, Machine, Notice, floored_answer, floored_if_found, floored_step, hear_at}
use Rattle.floors.specs.Worlds.{hear_result, is_manager, least_told, machine_part, raise_result, replace_result, step_with_floors}
use Rattle.floors.specs.Worlds.{told_with, with_entry, with_floors, with_rise, with_told_lost}
use Rattle.floors.specs.Runs.{does_raise, does_rise, events_in_machine, floored_opening, is_lost, is_put_in, passes_over, receiver_of}
use Rattle.floors.specs.Runs.{with_fault}
use Rattle.floors.proofs.Rising.{entry_by}
use Rattle.floors.proofs.Steps.{in_machine}
use Rattle.net_script.specs.Answers.{IsAnswer}
use Rattle.net_script.specs.Events.{IsFloor}
use Rattle.net_script.specs.TraceLines.{IsChange}
use Rattle.cluster_run.proofs.Floored.{IsSilent}
use Rattle.cluster_run.proofs.Raised.{heard_still, machine_still, raise_said, replaced_still}
use Rattle.run_traces.proofs.Formed.{IsFormed}
use Rattle.run_traces.proofs.Steps.{IsTold, silent}

-- ---- answers

pub over_told : (request : Request) → IsAnswer (forgotten_answer (Asked request))
over_told (requests.Call x Start) = tt
over_told (requests.Call x (Put key value)) = tt
over_told (requests.Call x (Del key)) = tt
over_told (requests.Call x (Get key)) = tt
over_told (requests.Call x End) = tt
over_told (requests.Call x EndFail) = tt
over_told (requests.Call x Rollback) = tt
over_told request = tt

module _ (floor : Option Place) (node : NodeState) where
  risen_told : (place : Place) (fault : Fault) → IsAnswer (risen floor node place fault).answer
  risen_told place NoMemoryAt = tt
  risen_told place (RecordFails whole) = tt
  risen_told place fault = tt

  raise_told : (place : Place) (fault : Fault) → IsAnswer (on_raise floor node place fault).answer
  raise_told place fault =
      cond_both (not node.up) _ _ (λ (r : Rise). IsAnswer r.answer) (λ down. tt)
      (λ up. cond_both (not (is_lower floor (Some place))) _ _ (λ (r : Rise). IsAnswer r.answer) (λ same. tt)
      (λ higher. cond_both (not (is_free_below place node)) _ _ (λ (r : Rise). IsAnswer r.answer) (λ busy. tt)
      (λ free. risen_told place fault)))

  least_rise_told : (least : Option Place) (fault : Fault) → IsAnswer (on_least floor node least fault).answer
  least_rise_told None fault = tt
  least_rise_told (Some place) fault =
      cond_both (is_lower floor (Some place)) (risen floor node place fault) (kept_rise floor node Done) (λ (r : Rise). IsAnswer r.answer)
      (λ higher. risen_told place fault) (λ same. tt)

module _ (config : Config) (who : NodeId) (node : NodeState) where
  restart_told : (fault : Fault) → IsAnswer (restart_outcome config who node fault).answer
  restart_told NoMemoryAt = tt
  restart_told (RecordFails whole) = tt
  restart_told fault =
      cond_both (all_play config who [] node.facts) _ _ (λ (o : Outcome). IsAnswer o.answer) (λ plays. tt) (λ damaged. tt)

  unput_told : (fault : Fault) → IsAnswer (not_put_in config who node fault)
  unput_told fault = cond_both (is_unread node fault) _ _ IsAnswer (λ unread. restart_told fault) (λ in_use. tt)

-- ---- rises, notices and replacements

-- nothing is sent, and the answer may be told
pub record IsSmall (world : FlooredWorld) (result : FlooredResult) : Type 0 where
  pub net : length result.world.machine.net ≡ length world.machine.net
  pub answer : IsAnswer result.answer

module _ (config : Config) (world : FlooredWorld) where
  pub raise_small : (rm : ℕ) (place : Place) (fault : Fault) → IsSmall world (floored_step config world (floored.Raise (R rm) place) fault)
  raise_small rm place NoMemoryBefore = record { net = refl; answer = tt }
  raise_small rm place fault = by_found (node_at config world.machine (R rm))
    where
      by_found : (o : Option NodeState) → IsSmall world (floored_if_found world (λ node.
          raise_result config world rm (on_raise (world.floor (R rm)) node place fault)) o)
      by_found None = record { net = refl; answer = tt }
      by_found (Some node) = record { net = refl; answer = raise_told (world.floor (R rm)) node place fault }

  pub hear_small : (n : ℕ) (fault : Fault) → IsSmall world (floored_step config world (floored.Hear n) fault)
  hear_small n NoMemoryBefore = record { net = refl; answer = tt }
  hear_small n fault = by_notice (slice_get world.notices n)
    where
      by_node : (notice : Notice) (o : Option NodeState) → IsSmall world (floored_if_found world (hear_result config world notice fault) o)
      by_node notice None = record { net = refl; answer = tt }
      by_node notice (Some node) =
          let told = told_with (world.told notice.receiver) notice in
          let rise = on_least (world.floor notice.receiver) node (least_told config told) fault in
          cond_both node.up (floored_answer (record (with_rise config world notice.receiver rise)
          { told = with_entry world.told notice.receiver told }) rise.answer) (floored_answer world (Refused Down)) (IsSmall world)
          (λ up. record {
            net = refl;
            answer = least_rise_told (world.floor notice.receiver) node (least_told config told) fault;
          })
          (λ down. record { net = refl; answer = tt })

      by_notice : (o : Option Notice) → IsSmall world (floored_if_found world (hear_at config world fault) o)
      by_notice None = record { net = refl; answer = tt }
      by_notice (Some notice) =
          cond_both (is_manager notice.receiver) (floored_answer world Done)
          (floored_if_found world (hear_result config world notice fault) (node_at config world.machine notice.receiver)) (IsSmall world)
          (λ manager. record { net = refl; answer = tt }) (λ other. by_node notice (node_at config world.machine notice.receiver))

  pub replace_small : (who : NodeId) (place : Place) (fault : Fault)
      → IsSmall world (floored_step config world (floored.Replace who place) fault)
  replace_small who place NoMemoryBefore = record { net = refl; answer = tt }
  replace_small who place fault =
      cond_both (is_manager who) (floored_answer world (Refused NoSuch))
      (floored_if_found world (replace_result config world who place fault) (node_at config world.machine who)) (IsSmall world)
      (λ manager. record { net = refl; answer = tt }) (λ other. by_found (node_at config world.machine who))
    where
      lost_small : (lost : Bool) (answer : Answer) → IsAnswer answer
          → IsSmall world (floored_answer (with_told_lost world who lost) answer)
      lost_small true answer is = record { net = refl; answer = is }
      lost_small false answer is = record { net = refl; answer = is }

      by_found : (o : Option NodeState) → IsSmall world (floored_if_found world (replace_result config world who place fault) o)
      by_found None = record { net = refl; answer = tt }
      by_found (Some node) =
          cond_both (may_replace (world.floor who) node place) _ _ (IsSmall world)
          (λ may. record { net = refl; answer = restart_told config who node fault })
          (λ used. lost_small (is_unread node fault) (not_put_in config who node fault) (unput_told config who node fault))

pub quiet_told : (world : FlooredWorld) (result : FlooredResult) → IsSilent result.now result.sent → IsSmall world result
    → IsTold (length world.machine.net) (machine_part result)
quiet_told world result silent small = record {
  answer = small.answer;
  change = subst (λ (o : Option Change). ForSome o IsChange) (sym silent.now_is) (λ change e. absurd (cc (e)));
  sent = λ d h. absurd (subst (λ (ds : List Datagram). IsIn ds d) silent.sent_is h);
  counted = let none = ap (λ (ds : List Datagram). length ds) silent.sent_is in omega (arith, small.net, none);
}

-- ---- worlds

-- a world that events which a text may name lead to: its machine's is one, and a text may name the floors of its resource managers
pub record IsGood (config : Config) (world : FlooredWorld) : Type 0 where
  pub reached : IsWellReached config world.machine
  pub floors : (rm : ℕ) (place : Place) → world.floor (R rm) ≡ Some place → IsFloor place

pub good_opening : (config : Config) → IsGood config (floored_opening config)
good_opening config = record { reached = forms.Opening; floors = λ rm place e. absurd (cc (e)) }

module _ (config : Config) (world : FlooredWorld) where
  -- the machine's events that come of such an event
  abbrev AreFormedAt : Fault → List Event → Type 0
  AreFormedAt fault events = AllByRecursion (λ (o : Occurrence). forms.IsEvent o.event) (with_fault fault events)

  one_if : (t : Bool) (event : Event) (fault : Fault) → forms.IsEvent event → AreFormedAt fault (if t then event ∷ [] else [])
  one_if true event fault is = (is, tt)
  one_if false event fault is = tt

  one_unless : (t : Bool) (event : Event) (fault : Fault) → forms.IsEvent event → AreFormedAt fault (if t then [] else event ∷ [])
  one_unless true event fault is = tt
  one_unless false event fault is = (is, tt)

  lost_formed : (t : Bool) (n : ℕ) (fault : Fault) → AreFormedAt fault ((if t then Lose n else Deliver n) ∷ [])
  lost_formed true n fault = (tt, tt)
  lost_formed false n fault = (tt, tt)

  in_machine_formed : (event : Event) (fault : Fault) → IsFormed event
      → AreFormedAt fault (events_in_machine config world (with_floors event))
  in_machine_formed (Ask who request) fault is = one_unless (passes_over config world who (Asked request)) (Ask who request) fault is
  in_machine_formed (Deliver n) fault is = lost_formed (is_lost config world (datagram_at world.machine.net n)) n fault
  in_machine_formed (Raise rm place) fault is = one_if (does_raise config world (R rm) place) (Compact (R rm)) fault tt
  in_machine_formed (Hear zero) fault is = (tt, tt)
  in_machine_formed (Hear (suc n)) fault is =
      one_if (does_rise config world (slice_get world.notices n)) (Compact (receiver_of (slice_get world.notices n))) fault tt
  in_machine_formed (Replace who place) fault is = one_if (is_put_in config world who place) (Restart who) fault tt
  in_machine_formed event fault is = (is, tt)

  reached_on : IsWellReached config world.machine → (event : Event) (fault : Fault) → IsFormed event
      → IsWellReached config (step_with_floors config world event fault).world.machine
  reached_on there event fault is =
      subst (IsWellReached config) (sym (in_machine config world (with_floors event) fault))
      (well_reached_after config world.machine there (with_fault fault (events_in_machine config world (with_floors event)))
      (in_machine_formed event fault is))

  -- ---- floors

  module _ (floors : (rm : ℕ) (place : Place) → world.floor (R rm) ≡ Some place → IsFloor place) where
    abbrev NamesFloors : FlooredResult → Type 0
    NamesFloors result = (rm : ℕ) (place : Place) → result.world.floor (R rm) ≡ Some place → IsFloor place

    still_named : (result : FlooredResult) → ((rm : ℕ) → result.world.floor (R rm) ≡ world.floor (R rm)) → NamesFloors result
    still_named result still rm place e = floors rm place (sym (still rm) ∙ e)

    -- the floor after a rise is the old one or the place
    pub rise_named : (other : ℕ) (node : NodeState) (place : Place) (fault : Fault) → IsFloor place → (at : Place)
        → (on_raise (world.floor (R other)) node place fault).floor ≡ Some at → IsFloor at
    rise_named other node place fault is at e = elim (raise_said (world.floor (R other)) node place fault).maybe [
      | inl same ↦ floors other at (sym same ∙ e)
      | inr rose ↦
          let there : Some place ≡ Some at = sym rose.0 ∙ e in
          let same : place ≡ at = cc (there) in
          subst IsFloor same is
    ]

    raise_named : (other : ℕ) (place : Place) (fault : Fault) → IsFloor place
        → NamesFloors (floored_step config world (floored.Raise (R other) place) fault)
    raise_named other place NoMemoryBefore is = floors
    raise_named other place fault is = by_found (node_at config world.machine (R other))
      where
        by_found : (o : Option NodeState) → NamesFloors (floored_if_found world (λ node.
            raise_result config world other (on_raise (world.floor (R other)) node place fault)) o)
        by_found None = floors
        by_found (Some node) = λ rm at.
            let rise = on_raise (world.floor (R other)) node place fault in
            entry_by world.floor (R other) rise.floor (λ (f : Option Place). f ≡ Some at → IsFloor at) (R rm)
            (λ own e. rise_named other node place fault is at e) (λ apart e. floors rm at e)

    floors_on : (event : Event) (fault : Fault) → IsFormed event → NamesFloors (step_with_floors config world event fault)
    floors_on (Raise rm place) fault is = raise_named rm place fault is.1
    floors_on (Hear zero) fault is =
        still_named (step_with_floors config world (Hear zero) fault) (λ rm. machine_still config world rm (Hear zero) fault)
    floors_on (Hear (suc n)) fault is =
        still_named (floored_step config world (floored.Hear n) fault) (λ rm. heard_still config world rm n fault)
    floors_on (Replace who place) fault is =
        still_named (floored_step config world (floored.Replace who place) fault) (λ rm. replaced_still config world rm who place fault)
    floors_on event fault is =
        still_named (floored_step config world (Machine event) fault) (λ rm. machine_still config world rm event fault)

  pub good_on : IsGood config world → (event : Event) (fault : Fault) → IsFormed event
      → IsGood config (step_with_floors config world event fault).world
  good_on good event fault is = record {
    reached = reached_on good.reached event fault is;
    floors = floors_on good.floors event fault is;
  }
