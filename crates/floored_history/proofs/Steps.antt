-- The steps of a run with floors are those of a run of the machine to the same nodes.
use Rattle.std.proofs.Common.{◌≡◌, ◌∙◌, List, [], ◌∷◌, ◌++◌, refl, sym, ap, subst}
use Rattle.std.specs.Prelude.{reverse}
use Rattle.std.proofs.lemmas.List.{reverse-append}
use Rattle.safety.specs.Vocabulary.{Event, Step}
use Rattle.protocol.specs.Effects.{Config}
use Rattle.protocol.specs.Nodes.{Fault}
use Rattle.protocol.specs.Worlds.{World, Occurrence, StepResult, opening, step_of, trace, world_after, world_step}
use Rattle.history.proofs.Runs.{IsRun, run_is}
use Rattle.floors.specs.Worlds.{FlooredWorld, FlooredEvent, Machine, floored_step, machine_part}
use Rattle.floors.specs.Runs.{IsFlooredReachable, After, all_events, events_in_machine, machine_events, with_fault}
use Rattle.floors.proofs.Steps.{same_event}
use Rattle.floors.proofs.Following.{machine_run}
use Rattle.floored_history.specs.Histories.{floored_history}

pub floored_run : (config : Config) (world : FlooredWorld) (reach : IsFlooredReachable config world)
    → IsRun config world.machine (floored_history config world reach)
floored_run config world reach =
    subst (λ (w : World). IsRun config w (floored_history config world reach)) (machine_run config world reach)
    (run_is config (all_events config world reach))

traced_both : (config : Config) (world : World) (before more : List Occurrence)
    → trace config world (before ++ more) ≡ trace config world before ++ trace config (world_after config world before) more
traced_both config world [] more = refl
traced_both config world (first ∷ rest) more =
    let result = world_step config world first.event first.fault in
    ap (λ (steps : List Step). step_of world first.event result ∷ steps) (traced_both config result.world rest more)

pub grown : (config : Config) (world : FlooredWorld) (reach : IsFlooredReachable config world) (event : FlooredEvent) (fault : Fault)
    → floored_history config (floored_step config world event fault).world (After world event fault reach)
    ≡ reverse (trace config world.machine (with_fault fault (events_in_machine config world event)))
    ++ floored_history config world reach
grown config world reach event fault =
    let before = all_events config world reach in
    let more = with_fault fault (events_in_machine config world event) in
    ap reverse (traced_both config (opening config) before more)
    ∙ reverse-append (trace config (opening config) before) (trace config (world_after config (opening config) before) more)
    ∙ ap (λ (w : World). reverse (trace config w more) ++ floored_history config world reach) (machine_run config world reach)

pub same : (config : Config) (world : FlooredWorld) (reach : IsFlooredReachable config world) (event : Event) (fault : Fault)
    → machine_events config world event ≡ event ∷ []
    → floored_history config (floored_step config world (Machine event) fault).world (After world (Machine event) fault reach)
    ≡ step_of world.machine event (machine_part (floored_step config world (Machine event) fault)) ∷ floored_history config world reach
same config world reach event fault alone =
    grown config world reach (Machine event) fault
    ∙ ap (λ (events : List Event). reverse (trace config world.machine (with_fault fault events)) ++ floored_history config world reach)
    alone
    ∙ ap (λ (result : StepResult). step_of world.machine event result ∷ floored_history config world reach)
    (sym (same_event config world event fault alone))
