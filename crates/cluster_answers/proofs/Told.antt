-- What a leader told in a world with floors, it told in the machine, by one of the events that came of those of the world.
use Rattle.std.proofs.Common.{◌≡◌, ◌∙◌, inl, inr, ℕ, Bool, true, false, if◌then◌else◌, List, [], ◌∷◌, ◌++◌, refl, sym, ap, subst}
use Rattle.xid.specs.Transactions.{TxParts}
use Rattle.xid.specs.declared.refusals.Refusal.TheVariants.{Forgotten}
use Rattle.ballot.specs.Greatest.{IsIn}
use Rattle.protocol.specs.declared.events.Step.{Step}
use Rattle.protocol.specs.declared.states.Standing.{Standing}
use Rattle.safety.specs.Vocabulary.{Answer, Ask, Event, L, Refused, Request, Stands as answers}
use Rattle.protocol.specs.Effects.{Config}
use Rattle.protocol.specs.Nodes.{Asked, Fault, NoFault, NoMemoryBefore, NoMemoryAt, RecordFails}
use Rattle.protocol.specs.Worlds.{Occurrence, StepResult, World, step_of, trace, world_after, world_step}
use Rattle.protocol.proofs.Lists.{IsIn-after, IsIn-before}
use Rattle.answers.specs.Answers.{IsQuestion, Tells}
use Rattle.answers.proofs.Runs.{IsToldIn}
use Rattle.floors.specs.Nodes.{forgotten_answer}
use Rattle.floors.specs.Worlds.{FlooredResult, FlooredWorld, floored_trace, on_machine, step_with_floors, with_floors}
use Rattle.floors.specs.Runs.{events_from, events_in_machine, machine_events, passes_over, with_fault}
use Rattle.floors.proofs.Steps.{in_machine, same_event, unasked_event}

trace_both : (config : Config) (world : World) (first second : List Occurrence)
    → trace config world (first ++ second) ≡ trace config world first ++ trace config (world_after config world first) second
trace_both config world [] second = refl
trace_both config world (one ∷ first) second =
    let result = world_step config world one.event one.fault in
    ap (λ (steps : List Step). step_of world one.event result ∷ steps) (trace_both config result.world first second)

-- nothing that stands is answered of what is over
not_over : (tx : TxParts) (request : Request) → IsQuestion tx request → forgotten_answer (Asked request) ≡ Refused Forgotten
not_over tx request (inl is) = ap (λ (r : Request). forgotten_answer (Asked r)) is
not_over tx request (inr is) = ap (λ (r : Request). forgotten_answer (Asked r)) is

module _ (config : Config) (l : ℕ) (tx : TxParts) (standing : Standing) where
  module _ (world : FlooredWorld) (request : Request) (asks : IsQuestion tx request) where
    abbrev event : Event
    event = Ask (L l) request

    abbrev answer_of : Fault → Answer
    answer_of fault = (step_with_floors config world event fault).answer

    -- a question that is passed over is answered so
    over_at : (fault : Fault) → passes_over config world (L l) (Asked request) ≡ true
        → (on_machine config world event fault).answer ≡ answers standing → ⊥
    over_at fault over is =
        let refused : Refused Forgotten ≡ answers standing =
        sym (ap (λ (r : FlooredResult). r.answer) (unasked_event config world (L l) request fault over)
        ∙ not_over tx request asks) ∙ is in
        absurd (cc (refused))

    over_by : (fault : Fault) → passes_over config world (L l) (Asked request) ≡ true → answer_of fault ≡ answers standing → ⊥
    over_by NoMemoryBefore over is = absurd (cc (is))
    over_by NoFault over is = over_at NoFault over is
    over_by NoMemoryAt over is = over_at NoMemoryAt over is
    over_by (RecordFails whole) over is = over_at (RecordFails whole) over is

    -- one that isn't is the machine's
    told_by : (fault : Fault) (over : Bool) → passes_over config world (L l) (Asked request) ≡ over → answer_of fault ≡ answers standing
        → IsToldIn config world.machine (with_fault fault (if over then [] else event ∷ [])) l tx standing
    told_by fault true over is = absurd (over_by fault over is)
    told_by fault false over is =
        let one : machine_events config world event ≡ event ∷ [] = ap (λ (t : Bool). if t then [] else event ∷ []) over in
        let result = world_step config world.machine event fault in
        record {
          step = step_of world.machine event result;
          among = inl refl;
          tells = record {
            request = request;
            asks = asks;
            event_is = refl;
            answer_is = sym (ap (λ (r : StepResult). r.answer) (same_event config world event fault one)) ∙ is;
          };
        }

    told_now : (fault : Fault) → answer_of fault ≡ answers standing
        → IsToldIn config world.machine (with_fault fault (events_in_machine config world (with_floors event))) l tx standing
    told_now fault is = told_by fault (passes_over config world (L l) (Asked request)) refl is

  -- among the events that come of those of a world is the one that tells it
  pub told_in : (world : FlooredWorld) (events : List Occurrence) (told : Step) → IsIn (floored_trace config world events) told
      → Tells l tx standing told → IsToldIn config world.machine (events_from config world events) l tx standing
  told_in world [] told h tells = absurd h
  told_in world (first ∷ rest) told (inl same) tells =
      let fault = first.fault in
      let event_is : first.event ≡ Ask (L l) tells.request = ap (λ (s : Step). s.event) same ∙ tells.event_is in
      let answer_is : (step_with_floors config world first.event fault).answer ≡ answers standing =
      ap (λ (s : Step). s.answer) same ∙ tells.answer_is in
      let now : IsToldIn config world.machine (with_fault fault (events_in_machine config world (with_floors first.event))) l tx standing =
      subst (λ (e : Event). IsToldIn config world.machine (with_fault fault (events_in_machine config world (with_floors e))) l tx standing)
      (sym event_is)
      (told_now world tells.request tells.asks fault
      (subst (λ (e : Event). (step_with_floors config world e fault).answer ≡ answers standing) event_is answer_is)) in
      let here = with_fault fault (events_in_machine config world (with_floors first.event)) in
      let later = events_from config (step_with_floors config world first.event fault).world rest in
      record {
        step = now.step;
        among = subst (λ (steps : List Step). IsIn steps now.step) (sym (trace_both config world.machine here later))
            (IsIn-before (trace config world.machine here) (trace config (world_after config world.machine here) later) now.step now.among);
        tells = now.tells;
      }
  told_in world (first ∷ rest) told (inr h) tells =
      let next = (step_with_floors config world first.event first.fault).world in
      let found = told_in next rest told h tells in
      let here = with_fault first.fault (events_in_machine config world (with_floors first.event)) in
      let later = events_from config next rest in
      record {
        step = found.step;
        among = subst (λ (steps : List Step). IsIn steps found.step) (sym (trace_both config world.machine here later))
            (IsIn-after (trace config world.machine here) (trace config (world_after config world.machine here) later) found.step
            (subst (λ (w : World). IsIn (trace config w later) found.step)
            (in_machine config world (with_floors first.event) first.fault) found.among));
        tells = found.tells;
      }
