-- Where looking back says that a resource manager is down, it says so by the steps of a run with floors as by those of the machine.
use Rattle.std.proofs.Common.{◌≡◌, ◌⊎◌, inl, inr, ◌∙◌, ℕ, Bool, true, false, ◌&&◌, ◌||◌, ◌==◌, if◌then◌else◌, List, [], ◌∷◌, ◌++◌}
use Rattle.std.proofs.Common.{refl, sym, ap}
use Rattle.std.specs.Prelude.{find, reverse}
use Rattle.std.specs.Option.{option_map_or}
use Rattle.std.proofs.lemmas.List.{append-nil}
use Rattle.protocol.specs.declared.events.Sent.{Sent}
use Rattle.safety.specs.Vocabulary.{Answer, Cut, Deliver, Event, Step}
use Rattle.history.proofs.Datagrams.{sent_more}
use Rattle.cluster_run.specs.Answers.{is_down, is_event_here}
use Rattle.history.specs.Calls.{is_restart}
use Rattle.history.specs.Outages.{is_event_at, is_manager, is_out, is_outage, is_record_fault, sent_lines}
use Rattle.cluster_run.proofs.Alike.{Alike, Nothing, Both, Shown, Hidden, IsQuiet}

-- ---- datagrams

quiet_sent : (step : Step) (steps : List Step) → IsQuiet step → sent_lines (reverse (step ∷ steps)) ≡ sent_lines (reverse steps)
quiet_sent step steps quiet =
    sent_more step steps ∙ ap (λ (sent : List Sent). sent_lines (reverse steps) ++ sent) quiet.sent
    ∙ append-nil (sent_lines (reverse steps))

same_sent : (shown machine : List Step) → Alike shown machine → sent_lines (reverse shown) ≡ sent_lines (reverse machine)
same_sent _ _ Nothing = refl
same_sent _ _ (Both step shown machine alike) =
    sent_more step shown ∙ ap (λ (sent : List Sent). sent ++ step.sent) (same_sent shown machine alike) ∙ sym (sent_more step machine)
same_sent _ _ (Shown step shown machine quiet alike) = quiet_sent step shown quiet ∙ same_sent shown machine alike
same_sent _ _ (Hidden step shown machine quiet alike) = same_sent shown machine alike ∙ sym (quiet_sent step machine quiet)

same_place : (shown machine : List Step) → Alike shown machine → (rm : ℕ) (event : Event)
    → is_event_at rm shown event ≡ is_event_at rm machine event
same_place shown machine alike rm (Deliver n) =
    ap (λ (all : List Sent). option_map_or (λ sent. is_manager rm sent.receiver) (find (λ sent. sent.number == n) all) false)
    (same_sent shown machine alike)
same_place shown machine alike rm (Cut n k) =
    ap (λ (all : List Sent). option_map_or (λ sent. is_manager rm sent.receiver) (find (λ sent. sent.number == n) all) false)
    (same_sent shown machine alike)
same_place shown machine alike rm event = refl

-- ---- tests

-- one of two that hold
pub either : (a b : Bool) → (a || b) ≡ true → (a ≡ true) ⊎ (b ≡ true)
either true b e = inl refl
either false b e = inr e

-- after an event that is no restart
after_event : (restart : Bool) (here before : Bool) → restart ≡ false → (here ≡ true) ⊎ (before ≡ true)
    → (if restart then false else here || before) ≡ true
after_event true here before e one = absurd (cc (e))
after_event false true before e one = refl
after_event false false before e (inl one) = absurd (cc (one))
after_event false false before e (inr one) = one

of_event : (restart here before : Bool) → (if restart then false else here || before) ≡ true
    → (restart ≡ false) × ((here ≡ true) ⊎ (before ≡ true))
of_event true here before e = absurd (cc (e))
of_event false here before e = (refl, either here before e)

-- ---- one step more

-- by the steps of a run with floors a manager may be down where it may be by the machine's, and surely is only where it is by those
pub record AreOut (shown machine : List Step) : Type 0 where
  pub may : (rm : ℕ) → is_out is_outage rm machine ≡ true → is_down is_outage rm shown ≡ true
  pub must : (rm : ℕ) → is_down is_record_fault rm shown ≡ true → is_out is_record_fault rm machine ≡ true

pub none_out : AreOut [] []
none_out = record { may = λ rm e. e; must = λ rm e. e }

module _ (shown machine : List Step) (alike : Alike shown machine) (out : AreOut shown machine) where
  -- an outage by a step of both
  abbrev here : (Answer → Bool) → ℕ → Step → Bool
  here test rm step = is_event_here rm shown step.event && test step.answer

  abbrev there : (Answer → Bool) → ℕ → Step → Bool
  there test rm step = is_event_at rm machine step.event && test step.answer

  pub both_out : (step : Step) → ((rm : ℕ) → is_event_here rm shown step.event ≡ is_event_at rm shown step.event)
      → AreOut (step ∷ shown) (step ∷ machine)
  both_out step plain =
      let same : (test : Answer → Bool) (rm : ℕ) → here test rm step ≡ there test rm step =
      λ (test : Answer → Bool) (rm : ℕ).
      ap (λ (b : Bool). b && test step.answer) (plain rm ∙ same_place shown machine alike rm step.event) in
      record {
        may = λ rm e.
            let parts = of_event (is_restart rm step.event step.answer) (there is_outage rm step) (is_out is_outage rm machine) e in
            after_event (is_restart rm step.event step.answer) (here is_outage rm step) (is_down is_outage rm shown) parts.0
            (elim parts.1 [ inl now ↦ inl (same is_outage rm ∙ now) | inr before ↦ inr (out.may rm before) ]);
        must = λ rm e.
            let parts = of_event (is_restart rm step.event step.answer) (here is_record_fault rm step) (is_down is_record_fault rm shown) e
            in
            after_event (is_restart rm step.event step.answer) (there is_record_fault rm step) (is_out is_record_fault rm machine) parts.0
            (elim parts.1 [ inl now ↦ inl (sym (same is_record_fault rm) ∙ now) | inr before ↦ inr (out.must rm before) ]);
      }

  -- a step that is shown alone
  pub shown_out : (step : Step) → ((rm : ℕ) → is_restart rm step.event step.answer ≡ false)
      → ((rm : ℕ) → here is_record_fault rm step ≡ true → ⊥) → AreOut (step ∷ shown) machine
  shown_out step mute spared = record {
    may = λ rm e. after_event (is_restart rm step.event step.answer) (here is_outage rm step) (is_down is_outage rm shown) (mute rm)
        (inr (out.may rm e));
    must = λ rm e.
        let parts = of_event (is_restart rm step.event step.answer) (here is_record_fault rm step) (is_down is_record_fault rm shown) e in
        elim parts.1 [ inl now ↦ absurd (spared rm now) | inr before ↦ out.must rm before ];
  }

  -- a step that is shown, and another of the machine
  pub pair_out : (step other : Step) → ((rm : ℕ) → is_restart rm step.event step.answer ≡ false)
      → ((rm : ℕ) → is_restart rm other.event other.answer ≡ false)
      → ((rm : ℕ) → there is_outage rm other ≡ true → here is_outage rm step ≡ true)
      → ((rm : ℕ) → here is_record_fault rm step ≡ true → there is_record_fault rm other ≡ true)
      → AreOut (step ∷ shown) (other ∷ machine)
  pair_out step other mute other_mute may must = record {
    may = λ rm e.
        let parts = of_event (is_restart rm other.event other.answer) (there is_outage rm other) (is_out is_outage rm machine) e in
        after_event (is_restart rm step.event step.answer) (here is_outage rm step) (is_down is_outage rm shown) (mute rm)
        (elim parts.1 [ inl now ↦ inl (may rm now) | inr before ↦ inr (out.may rm before) ]);
    must = λ rm e.
        let parts = of_event (is_restart rm step.event step.answer) (here is_record_fault rm step) (is_down is_record_fault rm shown) e in
        after_event (is_restart rm other.event other.answer) (there is_record_fault rm other) (is_out is_record_fault rm machine)
        (other_mute rm) (elim parts.1 [ inl now ↦ inl (must rm now) | inr before ↦ inr (out.must rm before) ]);
  }
