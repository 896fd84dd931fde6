-- What hands no input to a node is answered, where floors are, as the event of the machine is that it comes to, if it comes to one. So the
-- machine's run answers alike.
-- Needed by Reached.
use Rattle.std.proofs.Common.{◌≡◌, ◌∙◌, ℕ, Bool, true, false, not, ◌&&◌, if◌then◌else◌, Option, Some, None, refl, sym, ap}
use Rattle.std.specs.Prelude.{slice_get}
use Rattle.std.specs.Option.{option_map_or}
use Rattle.xid.specs.Places.{Place, is_lower}
use Rattle.xid.specs.declared.refusals.Refusal.TheVariants.{NoSuch, Down, Busy}
use Rattle.xid.proofs.Places.{not_below_none}
use Rattle.safety.specs.Vocabulary.{NodeId, A, L, R, Answer, Done, Refused, Event, Restart, Compact}
use Rattle.protocol.specs.Effects.{Config}
use Rattle.protocol.specs.Nodes.{NodeState, Fault, NoFault, NoMemoryBefore, NoMemoryAt, RecordFails, Outcome, restart_outcome}
use Rattle.protocol.specs.Nodes.{compact_outcome}
use Rattle.protocol.specs.Worlds.{StepResult, answer_result, if_found, node_at, outcome_result, dispatch, world_step}
use Rattle.floors.specs.Nodes.{is_free_below, risen, on_least, kept_rise, may_replace, is_unread, not_put_in, floor_after, on_raise}
use Rattle.floors.specs.Worlds.{FlooredWorld, FlooredEvent, FlooredResult, Notice, Raise, Hear, Replace, raise_at, raise_result, hear_at}
use Rattle.floors.specs.Worlds.{hear_result, replace_at, replace_result, floored_answer, floored_if_found, floored_dispatch, floored_step}
use Rattle.floors.specs.Worlds.{is_manager, is_put, least_told, told_with, nothing_told, with_entry, with_rise, with_told_lost}
use Rattle.floors.specs.Runs.{does_raise, does_rise, is_put_in, receiver_of}

module _ (config : Config) (world : FlooredWorld) (fault : Fault) where
  -- a compaction, by the node that is there
  abbrev shortened : NodeId → Option NodeState → Answer
  shortened who o = (if_found world.machine (λ node.
      if node.up then outcome_result config world.machine who node.facts (compact_outcome node fault)
      else answer_result world.machine (Refused Down)) o).answer

  abbrev restarted : NodeId → Option NodeState → Answer
  restarted who o = (if_found world.machine (λ node.
      outcome_result config world.machine who node.facts (restart_outcome config who node fault)) o).answer

  raised_by : (rm : ℕ) (place : Place) (o : Option NodeState)
      → option_map_or (λ node. node.up && is_lower (world.floor (R rm)) (Some place) && is_free_below place node) o false ≡ true
      → (floored_if_found world (λ node. raise_result config world rm (on_raise (world.floor (R rm)) node place fault)) o).answer
      ≡ shortened (R rm) o
  raised_by rm place None e = absurd (cc (e))
  raised_by rm place (Some node) e =
      by_tests node.up (is_lower (world.floor (R rm)) (Some place)) (is_free_below place node) e
    where
      by_tests : (up rises free : Bool) → (up && rises && free) ≡ true
          → (if not up then kept_rise (world.floor (R rm)) node (Refused Down)
          else if not rises then kept_rise (world.floor (R rm)) node Done
          else if not free then kept_rise (world.floor (R rm)) node (Refused Busy)
          else risen (world.floor (R rm)) node place fault).answer
          ≡ (if up then outcome_result config world.machine (R rm) node.facts (compact_outcome node fault)
          else answer_result world.machine (Refused Down)).answer
      by_tests true true true e = refl
      by_tests true true false e = absurd (cc (e))
      by_tests true false free e = absurd (cc (e))
      by_tests false rises free e = absurd (cc (e))

  raised_answer : (who : NodeId) (place : Place) → does_raise config world who place ≡ true
      → (raise_at config world who place fault).answer ≡ shortened who (node_at config world.machine who)
  raised_answer (R rm) place e = raised_by rm place (node_at config world.machine (R rm)) e
  raised_answer (A a) place e = absurd (cc (e))
  raised_answer (L l) place e = absurd (cc (e))

  module _ (notice : Notice) where
    abbrev receiver : NodeId
    receiver = notice.receiver

    abbrev told : ℕ → Option Place
    told = told_with (world.told receiver) notice

    least_by : (node : NodeState) (least : Option Place) → is_lower (world.floor receiver) least ≡ true
        → (on_least (world.floor receiver) node least fault).answer ≡ (compact_outcome node fault).answer
    least_by node None e =
        let never : is_lower (world.floor receiver) None ≡ false = not_below_none (world.floor receiver) in absurd (cc (e, never))
    least_by node (Some place) e =
        ap (λ (b : Bool).
        (if b then risen (world.floor receiver) node place fault else kept_rise (world.floor receiver) node Done).answer) e

    heard_by : (o : Option NodeState)
        → option_map_or (λ node. node.up && is_lower (world.floor receiver) (least_told config told)) o false ≡ true
        → (floored_if_found world (hear_result config world notice fault) o).answer ≡ shortened receiver o
    heard_by None e = absurd (cc (e))
    heard_by (Some node) e = by_test node.up e
      where
        by_test : (up : Bool) → (up && is_lower (world.floor receiver) (least_told config told)) ≡ true
            → (if up then floored_answer
            (record (with_rise config world receiver (on_least (world.floor receiver) node (least_told config told) fault))
            { told = with_entry world.told receiver told }) (on_least (world.floor receiver) node (least_told config told) fault).answer
            else floored_answer world (Refused Down)).answer
            ≡ (if up then outcome_result config world.machine receiver node.facts (compact_outcome node fault)
            else answer_result world.machine (Refused Down)).answer
        by_test true e = least_by node (least_told config told) e
        by_test false e = absurd (cc (e))

    heard_is : does_rise config world (Some notice) ≡ true
        → (hear_at config world fault notice).answer ≡ shortened receiver (node_at config world.machine receiver)
    heard_is e = by_test (is_manager receiver) e
      where
        by_test : (t : Bool)
            → (not t && option_map_or (λ node. node.up && is_lower (world.floor receiver) (least_told config told))
            (node_at config world.machine receiver) false) ≡ true
            → (if t then floored_answer world Done
            else floored_if_found world (hear_result config world notice fault) (node_at config world.machine receiver)).answer
            ≡ shortened receiver (node_at config world.machine receiver)
        by_test true e = absurd (cc (e))
        by_test false e = heard_by (node_at config world.machine receiver) e

  heard_answer : (o : Option Notice) → does_rise config world o ≡ true
      → (floored_if_found world (hear_at config world fault) o).answer
      ≡ shortened (receiver_of o) (node_at config world.machine (receiver_of o))
  heard_answer None e = absurd (cc (e))
  heard_answer (Some notice) e = heard_is notice e

  module _ (who : NodeId) (place : Place) where
    replaced_by : (o : Option NodeState) → option_map_or (λ node. may_replace (world.floor who) node place) o false ≡ true
        → (floored_if_found world (replace_result config world who place fault) o).answer ≡ restarted who o
    replaced_by None e = absurd (cc (e))
    replaced_by (Some node) e = by_test (may_replace (world.floor who) node place) e
      where
        left : Outcome
        left = restart_outcome config who node fault

        by_test : (t : Bool) → t ≡ true
            → (if t then floored_answer (record (with_rise config world who
            (record { node = left.node; floor = floor_after (world.floor who) place fault; answer = left.answer })) {
              told = with_entry world.told who nothing_told;
              is_replaced = if is_put fault then with_entry world.is_replaced who true else world.is_replaced;
            }) left.answer
            else floored_answer (with_told_lost world who (is_unread node fault)) (not_put_in config who node fault)).answer
            ≡ left.answer
        by_test true e = refl
        by_test false e = absurd (cc (e))

    replaced_answer : is_put_in config world who place ≡ true
        → (replace_at config world who place fault).answer ≡ restarted who (node_at config world.machine who)
    replaced_answer e = by_test (is_manager who) e
      where
        by_test : (t : Bool)
            → (not t && option_map_or (λ node. may_replace (world.floor who) node place) (node_at config world.machine who) false) ≡ true
            → (if t then floored_answer world (Refused NoSuch)
            else floored_if_found world (replace_result config world who place fault) (node_at config world.machine who)).answer
            ≡ restarted who (node_at config world.machine who)
        by_test true e = absurd (cc (e))
        by_test false e = replaced_by (node_at config world.machine who) e

  -- at a fault at which a node is reached
  abbrev IsAt : Type 0
  IsAt =
      ((event : FlooredEvent) → floored_step config world event fault ≡ floored_dispatch config world event fault)
      × ((event : Event) → world_step config world.machine event fault ≡ dispatch config world.machine event fault)

  abbrev answer_in : StepResult → Answer
  answer_in r = r.answer

  raise_at_it : IsAt → (who : NodeId) (place : Place) → does_raise config world who place ≡ true
      → (floored_step config world (Raise who place) fault).answer ≡ (world_step config world.machine (Compact who) fault).answer
  raise_at_it at who place e =
      ap (λ (r : FlooredResult). r.answer) (at.0 (Raise who place)) ∙ raised_answer who place e ∙ sym (ap answer_in (at.1 (Compact who)))

  hear_at_it : IsAt → (n : ℕ) → does_rise config world (slice_get world.notices n) ≡ true
      → (floored_step config world (Hear n) fault).answer
      ≡ (world_step config world.machine (Compact (receiver_of (slice_get world.notices n))) fault).answer
  hear_at_it at n e =
      ap (λ (r : FlooredResult). r.answer) (at.0 (Hear n)) ∙ heard_answer (slice_get world.notices n) e
      ∙ sym (ap answer_in (at.1 (Compact (receiver_of (slice_get world.notices n)))))

  replace_at_it : IsAt → (who : NodeId) (place : Place) → is_put_in config world who place ≡ true
      → (floored_step config world (Replace who place) fault).answer ≡ (world_step config world.machine (Restart who) fault).answer
  replace_at_it at who place e =
      ap (λ (r : FlooredResult). r.answer) (at.0 (Replace who place)) ∙ replaced_answer who place e
      ∙ sym (ap answer_in (at.1 (Restart who)))

module _ (config : Config) (world : FlooredWorld) where
  -- where a resource manager's floor rises it is answered as a compaction
  pub raise_told : (fault : Fault) (who : NodeId) (place : Place) → does_raise config world who place ≡ true
      → (floored_step config world (Raise who place) fault).answer ≡ (world_step config world.machine (Compact who) fault).answer
  raise_told NoMemoryBefore who place e = refl
  raise_told NoFault who place e = raise_at_it config world NoFault ((λ event. refl), (λ event. refl)) who place e
  raise_told NoMemoryAt who place e = raise_at_it config world NoMemoryAt ((λ event. refl), (λ event. refl)) who place e
  raise_told (RecordFails whole) who place e =
      raise_at_it config world (RecordFails whole) ((λ event. refl), (λ event. refl)) who place e

  -- where another's does so is it too
  pub hear_told : (fault : Fault) (n : ℕ) → does_rise config world (slice_get world.notices n) ≡ true
      → (floored_step config world (Hear n) fault).answer
      ≡ (world_step config world.machine (Compact (receiver_of (slice_get world.notices n))) fault).answer
  hear_told NoMemoryBefore n e = refl
  hear_told NoFault n e = hear_at_it config world NoFault ((λ event. refl), (λ event. refl)) n e
  hear_told NoMemoryAt n e = hear_at_it config world NoMemoryAt ((λ event. refl), (λ event. refl)) n e
  hear_told (RecordFails whole) n e = hear_at_it config world (RecordFails whole) ((λ event. refl), (λ event. refl)) n e

  -- where one is replaced it is answered as a restart
  pub replace_told : (fault : Fault) (who : NodeId) (place : Place) → is_put_in config world who place ≡ true
      → (floored_step config world (Replace who place) fault).answer ≡ (world_step config world.machine (Restart who) fault).answer
  replace_told NoMemoryBefore who place e = refl
  replace_told NoFault who place e = replace_at_it config world NoFault ((λ event. refl), (λ event. refl)) who place e
  replace_told NoMemoryAt who place e = replace_at_it config world NoMemoryAt ((λ event. refl), (λ event. refl)) who place e
  replace_told (RecordFails whole) who place e =
      replace_at_it config world (RecordFails whole) ((λ event. refl), (λ event. refl)) who place e
