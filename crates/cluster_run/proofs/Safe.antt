-- What the lines of a run say of its safety.
use Rattle.std.proofs.Common.{◌≡◌, ◌≢◌, ◌∙◌, ℕ, List, ◌∷◌, refl, sym, subst}
use Rattle.std.proofs.Math.Path.{fun_ext}
use Rattle.xid.specs.Transactions.{TxParts, is_participant}
use Rattle.xid.specs.declared.refusals.Refusal.TheVariants.{Damaged}
use Rattle.safety.specs.Vocabulary.{NodeId, Event, Refused, Restart, Step, View}
use Rattle.cluster_run.specs.Headlines.{views_back, IsSafeStep, AreSafe}
use Rattle.protocol.specs.Effects.{Config}
use Rattle.protocol.specs.Nodes.{Fault}
use Rattle.protocol.specs.TCommit.{IsCommitStep}
use Rattle.protocol.specs.Worlds.{Occurrence, StepResult}
use Rattle.safety.specs.CommitSteps.{IsConsistent}
use Rattle.safety.specs.Runs.{views_in}
use Rattle.safety.proofs.World.Reachable.{moves_find_ready, play, restart_undamaged}
use Rattle.floors.specs.Worlds.{FlooredResult, FlooredWorld, floored_step_of, step_with_floors, with_floors}
use Rattle.floors.proofs.Following.{are_runs, consistent, steps}
use Rattle.floors.proofs.Steps.{same_event}
use Rattle.history.proofs.Laws as laws
use Rattle.cluster_run.specs.Traces.{last_world, run_history}
use Rattle.cluster_run.proofs.Alike.{same_view}
use Rattle.cluster_run.proofs.Floored.{IsFlooredRun, AtFirst, Then, follows, reached, run_is}

-- the views of a world are those that the lines say
views_said : (config : Config) (world : FlooredWorld) (before : List Step) → IsFlooredRun config world before → (tx : TxParts)
    → views_in config world.machine tx ≡ views_back before tx
views_said config world before run tx =
    let beside = follows config world before run in
    fun_ext (λ rm. laws.views_back config world.machine beside.steps rm beside.run tx
    ∙ sym (same_view rm before beside.steps beside.alike tx))

module _ (config : Config) (world : FlooredWorld) (before : List Step) (run : IsFlooredRun config world before) (event : Event)
    (fault : Fault) where
  abbrev result : FlooredResult
  result = step_with_floors config world event fault

  abbrev step : Step
  step = floored_step_of world event result

  said_before : (tx : TxParts) → views_in config world.machine tx ≡ views_back before tx
  said_before tx = views_said config world before run tx

  said_after : (tx : TxParts) → views_in config result.world.machine tx ≡ views_back (step ∷ before) tx
  said_after tx = views_said config result.world (step ∷ before) (Then world before event fault run) tx

  moves_in : (tx : TxParts)
      → IsCommitStep (is_participant tx) (views_in config world.machine tx) (views_in config result.world.machine tx)
  moves_in tx = steps config world (reached config world before run) (with_floors event) fault tx

  moves : (tx : TxParts) → IsCommitStep (is_participant tx) (views_back before tx) (views_back (step ∷ before) tx)
  moves tx =
      subst (λ (s : ℕ → View). IsCommitStep (is_participant tx) s (views_back (step ∷ before) tx)) (said_before tx)
      (subst (λ (t : ℕ → View). IsCommitStep (is_participant tx) (views_in config world.machine tx) t) (said_after tx) (moves_in tx))

  undamaged_at : (who : NodeId) → event ≡ Restart who → result.answer ≢ Refused Damaged
  undamaged_at who is =
      subst (λ (e : Event). (step_with_floors config world e fault).answer ≢ Refused Damaged) (sym is)
      (subst (λ (r : StepResult). r.answer ≢ Refused Damaged) (sym (same_event config world (Restart who) fault refl))
      (restart_undamaged config world.machine who fault
      (play config world.machine (are_runs config world (reached config world before run)) who)))

  safe_step : IsSafeStep before step
  safe_step = record {
    moved = moves;
    consistent = λ tx. subst (λ (t : ℕ → View). IsConsistent (is_participant tx) t) (said_after tx)
        (consistent config result.world (reached config result.world (step ∷ before) (Then world before event fault run)) tx);
    found_prepared = λ tx r q named_r named_q old new.
        moves_find_ready (is_participant tx) (views_back before tx) (views_back (step ∷ before) tx) q named_q r named_r old new (moves tx);
    undamaged = undamaged_at;
  }

safe_from : (config : Config) (world : FlooredWorld) (before : List Step) → IsFlooredRun config world before → AreSafe before
safe_from config _ _ AtFirst = tt
safe_from config _ _ (Then world before event fault run) =
    (safe_step config world before run event fault, safe_from config world before run)

-- the lines of every run
pub safe_ever : (config : Config) (happened : List Occurrence) → AreSafe (run_history config happened)
safe_ever config happened = safe_from config (last_world config happened) (run_history config happened) (run_is config happened)
