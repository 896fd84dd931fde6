-- A world with floors that groups lead to is, in the machine, one that groups lead to. So what holds of these worlds holds of it.
-- Needed by `consistent`, `each_step`, `groups_are_events` and `groups_with_floors_are_groups`; Telling and Views.
use Rattle.std.proofs.Common.{◌≡◌, ◌∙◌, inl, Bool, true, false, if◌then◌else◌, List, [], ◌∷◌, ◌++◌, Option, Some, refl, sym, ap, subst}
use Rattle.std.proofs.Common.{append-nil}
use Rattle.std.specs.Prelude.{slice_get}
use Rattle.std.specs.List.{AllByRecursion}
use Rattle.xid.specs.Places.{Place}
use Rattle.xid.specs.Transactions.{TxParts, is_participant}
use Rattle.safety.specs.Vocabulary.{NodeId, Answer, Event, Restart, Compact, Tear}
use Rattle.safety.specs.CommitSteps.{IsConsistent}
use Rattle.safety.specs.Runs.{views_in}
use Rattle.protocol.specs.Effects.{Config}
use Rattle.protocol.specs.Nodes.{NodeState, Fault}
use Rattle.protocol.specs.TCommit.{IsCommitStep}
use Rattle.protocol.specs.Worlds.{World, StepResult, node_at, world_step, world_after}
use Rattle.groups.specs.Runs.{Handed, CanBeHanded, Happening, Upkept, IsMachines, IsReached, all_happened, group_result, is_upkeep}
use Rattle.groups.specs.Runs as grouped
use Rattle.groups.proofs.Reached as proved
use Rattle.floors.specs.Nodes.{is_input_below}
use Rattle.floors.specs.Worlds.{FlooredWorld, FlooredEvent, Machine, Raise, Hear, Replace, floored_step}
use Rattle.floors.specs.Runs.{does_raise, does_rise, events_in_machine, is_put_in, receiver_of, with_fault}
use Rattle.floors.proofs.Steps.{in_machine, same_event}
use Rattle.floored_groups.specs.Runs.{IsFlooredReached, Opening, Grouped, Kept, above_floor, floored_group_machine, floored_group_result}
use Rattle.floored_groups.specs.Runs.{handled_above, is_floored_upkeep, machine_happened, upkept_as}
use Rattle.floored_groups.proofs.Groups.{is_group, is_handled, all_above, above_append}
use Rattle.floored_groups.proofs.Upkeep.{raise_told, hear_told, replace_told}

-- ---- worlds

-- groups lead to a world, and this is what happened
pub record IsLed (config : Config) (world : World) (happened : List Happening) : Type 0 where
  pub reach : IsReached config world
  pub same : all_happened config world reach ≡ happened

module _ (config : Config) (world : World) (happened : List Happening) (l : IsLed config world happened) (fault : Fault) where
  one_kept : (event : Event) (answer : Answer) → is_upkeep event ≡ true → answer ≡ (world_step config world event fault).answer
      → IsLed config (world_step config world event fault).world (happened ++ upkept_as answer (event ∷ []))
  one_kept event answer is told = record {
    reach = grouped.Kept world event fault l.reach is;
    same =
        ap (λ (h : List Happening). h ++ Upkept event (world_step config world event fault).answer ∷ []) l.same
        ∙ ap (λ (a : Answer). happened ++ Upkept event a ∷ []) (sym told);
  }

  none_kept : (answer : Answer) → IsLed config world (happened ++ upkept_as answer [])
  none_kept answer = record { reach = l.reach; same = l.same ∙ sym (append-nil happened) }

  -- an event, if there is one
  kept_if : (t : Bool) (event : Event) (answer : Answer) → is_upkeep event ≡ true
      → (t ≡ true → answer ≡ (world_step config world event fault).answer)
      → IsLed config (world_after config world (with_fault fault (if t then event ∷ [] else [])))
      (happened ++ upkept_as answer (if t then event ∷ [] else []))
  kept_if true event answer is told = one_kept event answer is (told refl)
  kept_if false event answer is told = none_kept answer

module _ (config : Config) (world : FlooredWorld) (happened : List Happening) (l : IsLed config world.machine happened) where
  abbrev IsLedBy : FlooredEvent → Fault → Type 0
  IsLedBy event fault =
      IsLed config (world_after config world.machine (with_fault fault (events_in_machine config world event)))
      (happened ++ upkept_as (floored_step config world event fault).answer (events_in_machine config world event))

  machine_kept : (event : Event) (fault : Fault) → is_upkeep event ≡ true → IsLedBy (Machine event) fault
  machine_kept (Restart who) fault is =
      one_kept config world.machine happened l fault (Restart who) (floored_step config world (Machine (Restart who)) fault).answer is
      (ap (λ (r : StepResult). r.answer) (same_event config world (Restart who) fault refl))
  machine_kept (Compact who) fault is =
      one_kept config world.machine happened l fault (Compact who) (floored_step config world (Machine (Compact who)) fault).answer is
      (ap (λ (r : StepResult). r.answer) (same_event config world (Compact who) fault refl))
  machine_kept (Tear who n) fault is =
      one_kept config world.machine happened l fault (Tear who n) (floored_step config world (Machine (Tear who n)) fault).answer is
      (ap (λ (r : StepResult). r.answer) (same_event config world (Tear who n) fault refl))
  machine_kept event fault is = absurd (cc (is))

  led_by : (event : FlooredEvent) (fault : Fault) → is_floored_upkeep event ≡ true → IsLedBy event fault
  led_by (Machine event) fault is = machine_kept event fault is
  led_by (Raise who place) fault is =
      kept_if config world.machine happened l fault (does_raise config world who place) (Compact who)
      (floored_step config world (Raise who place) fault).answer refl
      (raise_told config world fault who place)
  led_by (Hear n) fault is =
      kept_if config world.machine happened l fault (does_rise config world (slice_get world.notices n))
      (Compact (receiver_of (slice_get world.notices n))) (floored_step config world (Hear n) fault).answer refl
      (hear_told config world fault n)
  led_by (Replace who place) fault is =
      kept_if config world.machine happened l fault (is_put_in config world who place) (Restart who)
      (floored_step config world (Replace who place) fault).answer refl
      (replace_told config world fault who place)

  kept : (event : FlooredEvent) (fault : Fault) → is_floored_upkeep event ≡ true
      → IsLed config (floored_step config world event fault).world.machine
      (happened ++ upkept_as (floored_step config world event fault).answer (events_in_machine config world event))
  kept event fault is =
      subst (λ (w : World). IsLed config w
      (happened ++ upkept_as (floored_step config world event fault).answer (events_in_machine config world event)))
      (sym (in_machine config world event fault)) (led_by event fault is)

  handed : (who : NodeId) (node : NodeState) (group : List Handed) (is_stored : Bool) → node_at config world.machine who ≡ Some node
      → AllByRecursion (λ (h : Handed). CanBeHanded world.machine who h.input) group
      → IsLed config (floored_group_machine config world.machine who (world.floor who) node group is_stored)
      (happened ++ handled_above config who (world.floor who) node group)
  handed who node group is_stored is all =
      let above = above_floor (world.floor who) group in
      subst (λ (w : World). IsLed config w (happened ++ handled_above config who (world.floor who) node group))
      (sym (is_group config who (world.floor who) world.machine node group is_stored))
      (record {
        reach =
            grouped.Grouped world.machine who node above is_stored l.reach is
            (all_above config who (world.floor who) world.machine group all);
        same =
            ap (λ (h : List Happening). h ++ grouped.handled_in config who node above) l.same
            ∙ ap (λ (h : List Happening). happened ++ h) (sym (is_handled config who (world.floor who) node group));
      })

-- each world with floors is led to, in the machine, by groups
pub led : (config : Config) (world : FlooredWorld) (reach : IsFlooredReached config world)
    → IsLed config world.machine (machine_happened config world reach)
led config _ Opening = record { reach = grouped.Opening; same = refl }
led config _ (Grouped world who node group is_stored reach is all) =
    handed config world (machine_happened config world reach) (led config world reach) who node group is_stored is all
led config _ (Kept world event fault reach is) =
    kept config world (machine_happened config world reach) (led config world reach) event fault is

-- a world with floors is one of groups in the machine
pub are_reached : (config : Config) (world : FlooredWorld) → IsFlooredReached config world → IsReached config world.machine
are_reached config world reach = (led config world reach).reach

-- ---- the laws

-- events of the machine are what happened, and lead to its nodes
pub are_machines : (config : Config) (world : FlooredWorld) (reach : IsFlooredReached config world)
    → IsMachines config world.machine (machine_happened config world reach)
are_machines config world reach =
    let l = led config world reach in
    subst (IsMachines config world.machine) l.same (proved.are_machines config world.machine l.reach)

-- none is committed there while another is aborted
pub consistent : (config : Config) (world : FlooredWorld) → IsFlooredReached config world → (tx : TxParts)
    → IsConsistent (is_participant tx) (views_in config world.machine tx)
consistent config world reach tx = proved.consistent config world.machine (are_reached config world reach) tx

-- ---- one step

module _ (config : Config) (world : FlooredWorld) (reach : IsFlooredReached config world) (tx : TxParts) where
  abbrev IsStep : World → World → Type 0
  IsStep old new = IsCommitStep (is_participant tx) (views_in config old tx) (views_in config new tx)

  step_if : (t : Bool) (event : Event) (fault : Fault) → is_upkeep event ≡ true
      → IsStep world.machine (world_after config world.machine (with_fault fault (if t then event ∷ [] else [])))
  step_if true event fault is = proved.upkeep_step config world.machine (are_reached config world reach) event fault is tx
  step_if false event fault is = inl (λ r named. refl)

  step_by : (event : FlooredEvent) (fault : Fault) → is_floored_upkeep event ≡ true
      → IsStep world.machine (world_after config world.machine (with_fault fault (events_in_machine config world event)))
  step_by (Machine (Restart who)) fault is = step_if true (Restart who) fault is
  step_by (Machine (Compact who)) fault is = step_if true (Compact who) fault is
  step_by (Machine (Tear who n)) fault is = step_if true (Tear who n) fault is
  step_by (Machine event) fault is = absurd (cc (is))
  step_by (Raise who place) fault is = step_if (does_raise config world who place) (Compact who) fault refl
  step_by (Hear n) fault is =
      step_if (does_rise config world (slice_get world.notices n)) (Compact (receiver_of (slice_get world.notices n))) fault refl
  step_by (Replace who place) fault is = step_if (is_put_in config world who place) (Restart who) fault refl

  -- an event that hands no input moves a transaction by at most one step
  pub upkeep_step : (event : FlooredEvent) (fault : Fault) → is_floored_upkeep event ≡ true
      → IsStep world.machine (floored_step config world event fault).world.machine
  upkeep_step event fault is = subst (IsStep world.machine) (sym (in_machine config world event fault)) (step_by event fault is)

  module _ (who : NodeId) (node : NodeState) (is : node_at config world.machine who ≡ Some node) (before : List Handed)
      (all : AllByRecursion (λ (h : Handed). CanBeHanded world.machine who h.input) before) (next : Handed)
      (can : CanBeHanded world.machine who next.input) (is_stored : Bool) where
    abbrev floor : Option Place
    floor = world.floor who

    abbrev first : List Handed
    first = above_floor floor before

    abbrev after : List Handed → World
    after group = group_result config world.machine who node group is_stored

    next_by : (t : Bool) → IsStep (after first) (after (first ++ (if t then [] else next ∷ [])))
    next_by true =
        subst (λ (group : List Handed). IsStep (after first) (after group)) (sym (append-nil first)) (inl (λ r named. refl))
    next_by false =
        proved.input_step config world.machine (are_reached config world reach) who node is first
        (all_above config who floor world.machine before all) next can is_stored tx

    -- and so does an input more of a group
    pub input_step : IsStep (floored_group_result config world who node before is_stored).machine
        (floored_group_result config world who node (before ++ next ∷ []) is_stored).machine
    input_step =
        subst (λ (w : World). IsStep w (floored_group_result config world who node (before ++ next ∷ []) is_stored).machine)
        (sym (is_group config who floor world.machine node before is_stored))
        (subst (λ (w : World). IsStep (after first) w)
        (sym (is_group config who floor world.machine node (before ++ next ∷ []) is_stored
        ∙ ap after (above_append config who floor before (next ∷ []))))
        (next_by (is_input_below floor next.input)))
