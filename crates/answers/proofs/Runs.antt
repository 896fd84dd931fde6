-- What the steps of a run tell: of one transaction one outcome, which holds where the run ends.
use Rattle.std.proofs.Common.{◌≡◌, inl, inr, ℕ, List, [], ◌∷◌, sym, subst}
use Rattle.xid.specs.Transactions.{TxParts}
use Rattle.ballot.specs.Greatest.{IsIn}
use Rattle.safety.specs.Vocabulary.{Event, Stands as answers}
use Rattle.safety.specs.CommitSteps.{committed}
use Rattle.safety.specs.Runs.{IsReachable, After}
use Rattle.protocol.specs.declared.events.Step.{Step}
use Rattle.protocol.specs.declared.states.Standing.{Standing}
use Rattle.protocol.specs.declared.states.Standing.TheVariants as standings
use Rattle.protocol.specs.Effects.{Config}
use Rattle.protocol.specs.Worlds.{World, Occurrence, step_of, trace, world_step, world_after}
use Rattle.answers.specs.Answers.{IsAnswered, Tells, HavePrepared, NoneIs}
use Rattle.answers.proofs.Decided.{committed_voted, committed_ready, never_committed, committed_agree, aborted_agree}

-- a step of a run tells it
pub record IsToldIn (config : Config) (world : World) (events : List Occurrence) (l : ℕ) (tx : TxParts) (standing : Standing) : Type 0 where
  pub step : Step
  pub among : IsIn (trace config world events) step
  pub tells : Tells l tx standing step

module _ (config : Config) (tx : TxParts) where
  -- some events on, a leader answers so
  record IsAnsweredOn (world : World) (l : ℕ) (standing : Standing) : Type 0 where
    events : List Occurrence
    answered : IsAnswered config (world_after config world events) l tx standing

  -- the answer of the first step is the world's
  told_now : (world : World) (l : ℕ) (standing : Standing) (first : Occurrence)
      → Tells l tx standing (step_of world first.event (world_step config world first.event first.fault))
      → IsAnswered config world l tx standing
  told_now world l standing first tells = record {
    request = tells.request;
    asks = tells.asks;
    fault = first.fault;
    answer_is = subst (λ (event : Event). (world_step config world event first.fault).answer ≡ answers standing) tells.event_is
        tells.answer_is;
  }

  told_on : (world : World) (events : List Occurrence) (l : ℕ) (standing : Standing) (step : Step)
      → IsIn (trace config world events) step → Tells l tx standing step → IsAnsweredOn world l standing
  told_on world [] l standing step h tells = absurd h
  told_on world (first ∷ rest) l standing step (inl e) tells = record {
    events = [];
    answered = told_now world l standing first (subst (Tells l tx standing) (sym e) tells);
  }
  told_on world (first ∷ rest) l standing step (inr h) tells =
      let on = told_on (world_step config world first.event first.fault).world rest l standing step h tells in
      record { events = first ∷ on.events; answered = on.answered }

  module _ (l other : ℕ) (one two : Step) (commits : Tells l tx standings.Committed one) (aborts : Tells other tx standings.Aborted two)
    where
      -- one of the two steps is first, or they are the same
      pub never_both : (world : World) → IsReachable config world → (events : List Occurrence) → IsIn (trace config world events) one
          → IsIn (trace config world events) two → ⊥
      never_both world reach [] h k = h
      never_both world reach (first ∷ rest) (inl e) k =
          let answered = told_now world l standings.Committed first (subst (Tells l tx standings.Committed) (sym e) commits) in
          let on = told_on world (first ∷ rest) other standings.Aborted two k aborts in
          committed_agree config world reach l tx on.events answered other on.answered
      never_both world reach (first ∷ rest) (inr h) (inl e) =
          let answered = told_now world other standings.Aborted first (subst (Tells other tx standings.Aborted) (sym e) aborts) in
          let on = told_on world (first ∷ rest) l standings.Committed one (inr h) commits in
          aborted_agree config world reach other tx on.events answered l on.answered
      never_both world reach (first ∷ rest) (inr h) (inr k) =
          never_both (world_step config world first.event first.fault).world (After world first.event first.fault reach) rest h k

  module _ (l : ℕ) (told : Step) where
    pub prepared_ever : Tells l tx standings.Committed told → (world : World) → IsReachable config world → (events : List Occurrence)
        → IsIn (trace config world events) told → HavePrepared config tx (world_after config world events)
    prepared_ever tells world reach [] h = absurd h
    prepared_ever tells world reach (first ∷ rest) (inl e) =
        let answered = told_now world l standings.Committed first (subst (Tells l tx standings.Committed) (sym e) tells) in
        λ q named. record {
          voted = committed_voted config world reach l tx (first ∷ rest) answered q named;
          ready = committed_ready config world reach l tx (first ∷ rest) answered q named;
        }
    prepared_ever tells world reach (first ∷ rest) (inr h) =
        prepared_ever tells (world_step config world first.event first.fault).world (After world first.event first.fault reach) rest h

    pub uncommitted_ever : Tells l tx standings.Aborted told → (world : World) → IsReachable config world → (events : List Occurrence)
        → IsIn (trace config world events) told → NoneIs config tx committed (world_after config world events)
    uncommitted_ever tells world reach [] h = absurd h
    uncommitted_ever tells world reach (first ∷ rest) (inl e) =
        let answered = told_now world l standings.Aborted first (subst (Tells l tx standings.Aborted) (sym e) tells) in
        never_committed config world reach l tx (first ∷ rest) answered
    uncommitted_ever tells world reach (first ∷ rest) (inr h) =
        uncommitted_ever tells (world_step config world first.event first.fault).world (After world first.event first.fault reach) rest h
