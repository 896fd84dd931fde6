-- What commands make happen, one event after another.
use Rattle.std.proofs.Common.{◌≡◌, ◌∙◌, List, [], ◌∷◌, ◌++◌, refl, sym, ap, subst, append_assoc}
use Rattle.std.proofs.lemmas.List.{append-nil}
use Rattle.safety.specs.Vocabulary.{Step}
use Rattle.cluster_run.specs.Happenings.{AreOfMemory, IsNext, AreNext, IsDoneBy, AreDoneBy}
use Rattle.protocol.specs.Effects.{Config}
use Rattle.protocol.specs.Worlds.{Occurrence}
use Rattle.floors.specs.Worlds.{FlooredWorld, floored_step_of, floored_trace, floored_world_after, step_with_floors}
use Rattle.net_script.specs.declared.values.Command.{Command}

pub after_more : (config : Config) (world : FlooredWorld) (before more : List Occurrence)
    → floored_world_after config world (before ++ more) ≡ floored_world_after config (floored_world_after config world before) more
after_more config world [] more = refl
after_more config world (first ∷ before) more = after_more config (step_with_floors config world first.event first.fault).world before more

pub trace_more : (config : Config) (world : FlooredWorld) (before more : List Occurrence)
    → floored_trace config world (before ++ more)
    ≡ floored_trace config world before ++ floored_trace config (floored_world_after config world before) more
trace_more config world [] more = refl
trace_more config world (first ∷ before) more =
    let result = step_with_floors config world first.event first.fault in
    ap (λ (steps : List Step). floored_step_of world first.event result ∷ steps) (trace_more config result.world before more)

pub memory_more : (before more : List Occurrence) → AreOfMemory before → AreOfMemory more → AreOfMemory (before ++ more)
memory_more [] more are then = then
memory_more (first ∷ before) more are then = (are.0, memory_more before more are.1 then)

pub next_more : (config : Config) (world : FlooredWorld) (before : List Occurrence) (next : Occurrence) → AreNext config world before
    → IsNext (floored_world_after config world before) next → AreNext config world (before ++ next ∷ [])
next_more config world [] next are is = (is, tt)
next_more config world (first ∷ before) next are is =
    (are.0, next_more config (step_with_floors config world first.event first.fault).world before next are.1 is)

pub done_more : (config : Config) (world : FlooredWorld) (commands : List Command) (before : List Occurrence) (command : Command)
    (more : List Occurrence) → AreDoneBy config world commands before
    → IsDoneBy config (floored_world_after config world before) command more
    → AreDoneBy config world (commands ++ command ∷ []) (before ++ more)
done_more config world [] before command more none is = (
  more,
  [],
  ap (λ (os : List Occurrence). os ++ more) none ∙ sym (append-nil more),
  subst (λ (os : List Occurrence). IsDoneBy config (floored_world_after config world os) command more) none is,
  refl,
)
done_more config world (first ∷ commands) before command more are is =
    let done = are.0 in
    let rest = are.1 in
    let at : FlooredWorld = floored_world_after config world done in
    let same : floored_world_after config world before ≡ floored_world_after config at rest =
    ap (floored_world_after config world) are.2 ∙ after_more config world done rest in (
      done,
      rest ++ more,
      ap (λ (os : List Occurrence). os ++ more) are.2 ∙ append_assoc done rest more,
      are.3,
      done_more config at commands rest command more are.4
          (subst (λ (w : FlooredWorld). IsDoneBy config w command more) same is),
    )
