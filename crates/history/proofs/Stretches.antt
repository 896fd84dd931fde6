-- What one more step makes of what is looked back at.
-- Needed by Kept, KeyCourses, SerialReads and Told.
use Rattle.std.proofs.Common.{◌≡◌, ◌∙◌, ℕ, Bool, true, false, not, cond, ◌||◌, if◌then◌else◌, List, [], ◌∷◌, Option, Some, None, refl, ap}
use Rattle.std.specs.Prelude.{filter_map}
use Rattle.std.specs.List.{cons_option, take_while}
use Rattle.std.specs.Option.{option_map_or}
use Rattle.std.proofs.lemmas.List.Sums.{take_while-cons}
use Rattle.xid.specs.Names.{XidParts}
use Rattle.xid.specs.Transactions.{TxParts}
use Rattle.safety.specs.Vocabulary.{Change, Step, Action}
use Rattle.safety.proofs.World.Changes.{or_none}
use Rattle.history.specs.Lines.{change_at, changes_at}
use Rattle.history.specs.Calls.{is_restart}
use Rattle.history.specs.LookingBack.{is_rollback, done_at, is_name_at, ends_at, actions_since, is_vote_at, before_vote}

module _ (rm : ℕ) (step : Step) (before : List Step) where
  -- what was done in a branch, by whether the step ends that
  pub since_by : (x : XidParts) (ends : Bool) → ends_at rm x step ≡ ends → actions_since rm x (step ∷ before)
      ≡ (if ends then [] else cons_option (done_at rm x step) (actions_since rm x before))
  since_by x ends e =
      ap (filter_map (done_at rm x)) (take_while-cons (λ (s : Step). not (ends_at rm x s)) step before)
      ∙ ap (λ (b : Bool). filter_map (done_at rm x) (cond (not b) (step ∷ take_while (λ (s : Step). not (ends_at rm x s)) before) [])) e
      ∙ computed ends
    where
      computed : (b : Bool)
          → filter_map (done_at rm x) (cond (not b) (step ∷ take_while (λ (s : Step). not (ends_at rm x s)) before) [])
          ≡ (if b then [] else cons_option (done_at rm x step) (actions_since rm x before))
      computed true = refl
      computed false = refl

  -- where the step restarts the manager, nothing is left
  pub since_restart : (x : XidParts) → is_restart rm step.event step.answer ≡ true → actions_since rm x (step ∷ before) ≡ []
  since_restart x e = since_by x true (ap (λ (b : Bool). b || option_map_or (λ change. is_name_at rm x change.tx) (change_at rm step) false
      || option_map_or is_rollback (done_at rm x step) false) e)

  -- where it is no restart, says no change and does no call in the branch, all is left
  pub since_silent : (x : XidParts) → is_restart rm step.event step.answer ≡ false → change_at rm step ≡ None → done_at rm x step ≡ None
      → actions_since rm x (step ∷ before) ≡ actions_since rm x before
  since_silent x restart change none =
      since_by x false (λ i. restart i || option_map_or (λ c. is_name_at rm x c.tx) (change i) false
      || option_map_or is_rollback (none i) false)
      ∙ ap (λ (o : Option Action). cons_option o (actions_since rm x before)) none

  -- where it does a call in the branch
  pub since_call : (x : XidParts) (action : Action) → is_restart rm step.event step.answer ≡ false → change_at rm step ≡ None
      → done_at rm x step ≡ Some action
      → actions_since rm x (step ∷ before) ≡ (if is_rollback action then [] else action ∷ actions_since rm x before)
  since_call x action restart change does =
      since_by x (is_rollback action) (λ i. restart i || option_map_or (λ c. is_name_at rm x c.tx) (change i) false
      || option_map_or is_rollback (does i) false)
      ∙ ap (λ (o : Option Action). if is_rollback action then [] else cons_option o (actions_since rm x before)) does

  -- where it says a change of a transaction
  pub since_change : (x : XidParts) (change : Change) → is_restart rm step.event step.answer ≡ false → change_at rm step ≡ Some change
      → done_at rm x step ≡ None
      → actions_since rm x (step ∷ before) ≡ (if is_name_at rm x change.tx then [] else actions_since rm x before)
  since_change x change restart is none =
      since_by x (is_name_at rm x change.tx) ((λ i. restart i || option_map_or (λ c. is_name_at rm x c.tx) (is i) false
      || option_map_or is_rollback (none i) false) ∙ or_none (is_name_at rm x change.tx))
      ∙ ap (λ (o : Option Action). if is_name_at rm x change.tx then [] else cons_option o (actions_since rm x before)) none

  pub changes_silent : change_at rm step ≡ None → changes_at rm (step ∷ before) ≡ changes_at rm before
  changes_silent change = ap (λ (o : Option Change). cons_option o (changes_at rm before)) change

  pub changes_said : (change : Change) → change_at rm step ≡ Some change → changes_at rm (step ∷ before) ≡ change ∷ changes_at rm before
  changes_said change is = ap (λ (o : Option Change). cons_option o (changes_at rm before)) is

  -- what happened before a vote
  pub before_other : (tx : TxParts) → is_vote_at rm tx step ≡ false → before_vote rm tx (step ∷ before) ≡ before_vote rm tx before
  before_other tx e = ap (λ (b : Bool). if b then before else before_vote rm tx before) e

  pub before_own : (tx : TxParts) → is_vote_at rm tx step ≡ true → before_vote rm tx (step ∷ before) ≡ before
  before_own tx e = ap (λ (b : Bool). if b then before else before_vote rm tx before) e
