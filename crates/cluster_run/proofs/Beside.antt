-- A run with floors stands beside a run of the machine: the same nodes at the end, and steps that say the same where one looks back.
use Rattle.std.proofs.Common.{◌≡◌, ◌∙◌, List, [], ◌∷◌, ◌++◌, refl, sym, ap, subst}
use Rattle.std.specs.Prelude.{reverse}
use Rattle.std.proofs.lemmas.List.{reverse-append}
use Rattle.safety.specs.Vocabulary.{Step}
use Rattle.protocol.specs.Effects.{Config}
use Rattle.protocol.specs.Worlds.{World, Occurrence, opening, step_of, trace, world_after, world_step}
use Rattle.floors.proofs.Following.{after_both}
use Rattle.history.specs.Lines.{history}
use Rattle.history.proofs.Runs.{IsRun, AtFirst, Then}
use Rattle.cluster_run.specs.Traces.{last_world, run_history}
use Rattle.cluster_run.proofs.Alike.{Alike}
use Rattle.cluster_run.proofs.Floored.{follows, run_is}

trace_both : (config : Config) (world : World) (first second : List Occurrence)
    → trace config world (first ++ second) ≡ trace config world first ++ trace config (world_after config world first) second
trace_both config world [] second = refl
trace_both config world (one ∷ first) second =
    let result = world_step config world one.event one.fault in
    ap (λ (steps : List Step). step_of world one.event result ∷ steps) (trace_both config result.world first second)

-- events of the machine that lead to a world by these steps
pub record AreEvents (config : Config) (world : World) (steps : List Step) : Type 0 where
  pub events : List Occurrence
  pub leads : world_after config (opening config) events ≡ world
  pub steps_are : history config events ≡ steps

events_of : (config : Config) (world : World) (steps : List Step) → IsRun config world steps → AreEvents config world steps
events_of config _ _ AtFirst = record { events = []; leads = refl; steps_are = refl }
events_of config _ _ (Then world before event fault run) =
    let so = events_of config world before run in
    let last : Occurrence = record { event = event; fault = fault } in
    let step : World → Step = λ (w : World). step_of w event (world_step config w event fault) in
    record {
      events = so.events ++ last ∷ [];
      leads =
          after_both config (opening config) so.events (last ∷ [])
          ∙ ap (λ (w : World). (world_step config w event fault).world) so.leads;
      steps_are =
          ap reverse (trace_both config (opening config) so.events (last ∷ []))
          ∙ reverse-append (trace config (opening config) so.events)
          (trace config (world_after config (opening config) so.events) (last ∷ []))
          ∙ ap (λ (w : World). step w ∷ history config so.events) so.leads ∙ ap (λ (steps : List Step). step world ∷ steps) so.steps_are;
    }

-- what happened in a run, as events of the machine
pub record IsBeside (config : Config) (happened : List Occurrence) : Type 0 where
  pub events : List Occurrence
  pub leads : world_after config (opening config) events ≡ (last_world config happened).machine
  pub alike : Alike (run_history config happened) (history config events)

pub beside : (config : Config) (happened : List Occurrence) → IsBeside config happened
beside config happened =
    let so = follows config (last_world config happened) (run_history config happened) (run_is config happened) in
    let are = events_of config (last_world config happened).machine so.steps so.run in
    record {
      events = are.events;
      leads = are.leads;
      alike = subst (Alike (run_history config happened)) (sym are.steps_are) so.alike;
    }
