-- A world with floors is one that the machine can come to, with the same nodes and datagrams.
use Rattle.std.proofs.Common.{◌≡◌, ◌∙◌, inl, Bool, true, false, if◌then◌else◌, List, [], ◌∷◌, ◌++◌, refl, sym, ap, subst}
use Rattle.std.specs.Prelude.{slice_get}
use Rattle.xid.specs.Transactions.{TxParts, is_participant}
use Rattle.safety.specs.Vocabulary.{Event, Ask, Deliver, Lose, Restart, Compact}
use Rattle.safety.specs.CommitSteps.{IsConsistent}
use Rattle.safety.specs.Runs.{IsReachable, views_in}
use Rattle.safety.specs.Runs as reachable
use Rattle.safety.proofs.World.Reachable as proved
use Rattle.safety.proofs.World.Events.{reachable_after}
use Rattle.protocol.specs.Effects.{Config}
use Rattle.protocol.specs.Nodes.{Fault, Asked}
use Rattle.protocol.specs.TCommit.{IsCommitStep}
use Rattle.protocol.specs.Worlds.{World, Occurrence, opening, datagram_at, world_step, world_after}
use Rattle.floors.specs.Worlds.{FlooredWorld, FlooredEvent, Machine, Raise, Hear, Replace, floored_step, floored_world_after}
use Rattle.floors.specs.Worlds.{step_with_floors, with_floors}
use Rattle.floors.specs.Runs.{IsFlooredReachable, Opening, After, passes_over, is_lost, does_raise, does_rise, is_put_in, receiver_of}
use Rattle.floors.specs.Runs.{events_from, events_in_machine, with_fault, all_events}
use Rattle.floors.proofs.Steps.{in_machine}

-- ---- runs

pub are_runs : (config : Config) (world : FlooredWorld) → IsFlooredReachable config world → IsReachable config world.machine
are_runs config _ Opening = reachable.Opening
are_runs config _ (After world event fault reach) =
    subst (IsReachable config) (sym (in_machine config world event fault))
    (reachable_after config world.machine (are_runs config world reach) (with_fault fault (events_in_machine config world event)))

pub after_both : (config : Config) (world : World) (first second : List Occurrence)
    → world_after config world (first ++ second) ≡ world_after config (world_after config world first) second
after_both config world [] second = refl
after_both config world (one ∷ first) second = after_both config (world_step config world one.event one.fault).world first second

-- the events of the machine that came of a run lead to the same world
pub machine_run : (config : Config) (world : FlooredWorld) (reach : IsFlooredReachable config world)
    → world_after config (opening config) (all_events config world reach) ≡ world.machine
machine_run config _ Opening = refl
machine_run config _ (After world event fault reach) =
    let more = with_fault fault (events_in_machine config world event) in
    after_both config (opening config) (all_events config world reach) more
    ∙ ap (λ (w : World). world_after config w more) (machine_run config world reach) ∙ sym (in_machine config world event fault)

-- so do those that come of events from a world on
pub machine_after : (config : Config) (world : FlooredWorld) (events : List Occurrence)
    → world_after config world.machine (events_from config world events) ≡ (floored_world_after config world events).machine
machine_after config world [] = refl
machine_after config world (first ∷ rest) =
    let here = with_fault first.fault (events_in_machine config world (with_floors first.event)) in
    let next = (step_with_floors config world first.event first.fault).world in
    after_both config world.machine here (events_from config next rest)
    ∙ ap (λ (w : World). world_after config w (events_from config next rest))
    (sym (in_machine config world (with_floors first.event) first.fault))
    ∙ machine_after config next rest

-- ---- one step

module _ (config : Config) (world : FlooredWorld) (P : World → Type 0) (still : P world.machine)
    (steps : (event : Event) (fault : Fault) → P (world_step config world.machine event fault).world) where
  if_one : (t : Bool) (event : Event) (fault : Fault)
      → P (world_after config world.machine (with_fault fault (if t then event ∷ [] else [])))
  if_one true event fault = steps event fault
  if_one false event fault = still

  unless_one : (t : Bool) (event : Event) (fault : Fault)
      → P (world_after config world.machine (with_fault fault (if t then [] else event ∷ [])))
  unless_one true event fault = still
  unless_one false event fault = steps event fault

  -- what holds of a world and after each event of the machine holds after each event with floors
  at_most_one : (event : FlooredEvent) (fault : Fault)
      → P (world_after config world.machine (with_fault fault (events_in_machine config world event)))
  at_most_one (Machine (Ask who request)) fault = unless_one (passes_over config world who (Asked request)) (Ask who request) fault
  at_most_one (Machine (Deliver n)) fault =
      steps (if is_lost config world (datagram_at world.machine.net n) then Lose n else Deliver n) fault
  at_most_one (Machine event) fault = steps event fault
  at_most_one (Raise who place) fault = if_one (does_raise config world who place) (Compact who) fault
  at_most_one (Hear n) fault =
      if_one (does_rise config world (slice_get world.notices n)) (Compact (receiver_of (slice_get world.notices n))) fault
  at_most_one (Replace who place) fault = if_one (is_put_in config world who place) (Restart who) fault

  pub one_step : (event : FlooredEvent) (fault : Fault) → P (floored_step config world event fault).world.machine
  one_step event fault = subst P (sym (in_machine config world event fault)) (at_most_one event fault)

pub steps : (config : Config) (world : FlooredWorld) → IsFlooredReachable config world → (event : FlooredEvent) (fault : Fault)
    (tx : TxParts)
    → IsCommitStep (is_participant tx) (views_in config world.machine tx)
    (views_in config (floored_step config world event fault).world.machine tx)
steps config world reach event fault tx =
    one_step config world
    (λ (after : World). IsCommitStep (is_participant tx) (views_in config world.machine tx) (views_in config after tx))
    (inl (λ r named. refl))
    (λ e f. proved.steps config world.machine (are_runs config world reach) e f tx) event fault

pub consistent : (config : Config) (world : FlooredWorld) → IsFlooredReachable config world → (tx : TxParts)
    → IsConsistent (is_participant tx) (views_in config world.machine tx)
consistent config world reach tx = proved.consistent config world.machine (are_runs config world reach) tx
