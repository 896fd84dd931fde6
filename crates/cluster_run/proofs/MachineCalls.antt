-- What a client call of the machine leaves is what one call leaves, and it is answered as one call is.
use Rattle.std.proofs.Common.{◌≡◌, inl, inr, ◌∙◌, Bool, true, false, if◌then◌else◌, List, refl, sym, ap, subst, ℕ}
use Rattle.xid.specs.Names.{XidParts}
use Rattle.protocol.specs.Basics.{Fact}
use Rattle.safety.specs.Vocabulary.{Action, Start, Row}
use Rattle.protocol.specs.Branches.{BranchView, hinders, is_done}
use Rattle.protocol.specs.Effects.{Effect}
use Rattle.protocol.specs.Facts.{bound_branches, is_spent}
use Rattle.protocol.specs.Holds.{AreInOrder, AreNamedOnce}
use Rattle.protocol.specs.Managers.{Branch, all_branches, view_named, is_hindered, named_answer, on_call, stored_votes}
use Rattle.protocol.specs.Tables.{table}
use Rattle.protocol.proofs.DoneCalls.{IsReadyFor}
use Rattle.branch_table.specs.OneCall.{SameView, view_after_done}
use Rattle.branch_table.proofs.Views.{none_hinders}
use Rattle.branch_table.proofs.CallSteps.{same_from}
use Rattle.history.proofs.CallsLeave.{call_leaves, call_ready, each_over, never_prepared, undone_leaves}
use Rattle.resource_manager.proofs.Calling.{busy_decides}
use Rattle.cluster_run.specs.MachineCalls.{branch_view, IsOneCall, AnswersNamed}

-- ---- what it leaves

module _ (rm : ℕ) (facts : List Fact) where
  -- a branch that a call is done in is none of the prepared ones, whatever stands behind them
  through_own : (x : XidParts) (action : Action) (old : List Branch) → IsReadyFor action (branch_view rm facts old x).state
      → (branches : List Branch) → branch_view rm facts branches x ≡ view_named branches x
  through_own x action old is = elim (each_over rm facts x) [
    | inl through ↦ through
    | inr stops ↦
        absurd (never_prepared action (stops.0).state stops.1 (subst (λ (v : BranchView). IsReadyFor action v.state) (stops.2 old) is))
  ]

  others_left : (y : XidParts) (old new : List Branch) → view_named new y ≡ view_named old y
      → branch_view rm facts new y ≡ branch_view rm facts old y
  others_left y old new kept = elim (each_over rm facts y) [
    | inl through ↦ through new ∙ kept ∙ sym (through old)
    | inr stops ↦ stops.2 new ∙ sym (stops.2 old)
  ]

  module _ (branches : List Branch) (ordered : AreInOrder branches) (x : XidParts) (action : Action) (first : List Row) where
    abbrev effect : Effect (List Branch)
    effect = on_call rm (stored_votes rm facts) (table first facts) branches x action

    abbrev v : BranchView
    v = branch_view rm facts branches x

    done_left : is_done action effect.answer ≡ true → IsOneCall rm facts branches x action effect
    done_left done =
        let left = (call_leaves rm facts first branches x action ordered done).1 in
        let through = through_own x action branches (call_ready rm facts first branches x action done) in
        let own : SameView (branch_view rm facts effect.memory x) (view_after_done v action) =
        subst (λ (u : BranchView). SameView u (view_after_done v action)) (sym (through effect.memory))
        (subst (λ (u : BranchView). SameView (view_named effect.memory x) (view_after_done u action)) (sym (through branches)) left.own) in
        record {
          left = record {
            own = subst (λ (t : Bool). SameView (branch_view rm facts effect.memory x) (if t then view_after_done v action else v))
                (sym done) own;
            others = λ y apart. same_from _ _ (others_left y branches effect.memory (left.others y apart));
          };
          ordered = left.ordered;
        }

    undone_left : is_done action effect.answer ≡ false → IsOneCall rm facts branches x action effect
    undone_left undone =
        let kept = undone_leaves rm facts first branches x action undone in
        record {
          left = record {
            own = subst (λ (t : Bool). SameView (branch_view rm facts effect.memory x) (if t then view_after_done v action else v))
                (sym undone) (same_from _ _ (ap (λ (bs : List Branch). branch_view rm facts bs x) kept));
            others = λ y apart. same_from _ _ (ap (λ (bs : List Branch). branch_view rm facts bs y) kept);
          };
          ordered = subst AreInOrder (sym kept) ordered;
        }

    -- a client call of the machine is one call
    pub call_is : IsOneCall rm facts branches x action effect
    call_is = by (is_done action effect.answer) refl
      where
        by : (done : Bool) → is_done action effect.answer ≡ done → IsOneCall rm facts branches x action effect
        by true e = done_left e
        by false e = undone_left e

-- ---- the answer

answers_by : (spent : Bool) (rows : List Row) (bs : List Branch) (x : XidParts) (action : Action) → AreNamedOnce bs
    → AnswersNamed spent rows (view_named bs) x action
    (named_answer spent rows (view_named bs x) (is_hindered (hinders action) bs x) action)
answers_by true rows bs x Start once = refl
answers_by true rows bs x action once =
    (is_hindered (hinders action) bs x, busy_decides (hinders action) (none_hinders action) bs x once, refl)
answers_by false rows bs x action once =
    (is_hindered (hinders action) bs x, busy_decides (hinders action) (none_hinders action) bs x once, refl)

-- it is answered as one call is
pub answered_is : (rm : ℕ) (first : List Row) (facts : List Fact) (branches : List Branch)
    → AreNamedOnce (all_branches rm (bound_branches facts) branches)
    → (x : XidParts) (action : Action)
    → AnswersNamed (is_spent rm facts x) (table first facts) (branch_view rm facts branches) x action
    (on_call rm (stored_votes rm facts) (table first facts) branches x action).answer
answered_is rm first facts branches once x action =
    answers_by (is_spent rm facts x) (table first facts) (all_branches rm (bound_branches facts) branches) x action once
