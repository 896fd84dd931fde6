-- What a client call of the machine leaves of the branches is what one call leaves.
-- Needed by Kept, SerialReads, Shown and Told; crates cluster and cluster_run.
use Rattle.std.proofs.Common.{◌≡◌, ◌≢◌, ◌⊎◌, inl, inr, ◌∙◌, Bool, true, false, not, if◌then◌else◌, cond, List, [], ◌∷◌, ◌++◌}
use Rattle.std.proofs.Common.{map, Option, Some, None, refl, sym, ap, subst, ℕ}
use Rattle.std.specs.Prelude.{filter_map}
use Rattle.std.specs.List.{AllByRecursion, cons_option, list_any}
use Rattle.std.specs.Option.{option_map}
use Rattle.std.proofs.lemmas.Bool.{cond_both, cond-true, not-false, or_from}
use Rattle.xid.specs.Names.{XidParts, xid_eq}
use Rattle.xid.specs.Transactions.{xid_at}
use Rattle.xid.proofs.Deciding.{not_true, xid_decides, xid_other}
use Rattle.stable_record.specs.Facts.{AreAscending}
use Rattle.protocol.specs.Basics.{Fact, Act}
use Rattle.protocol.specs.declared.states.BranchState.TheVariants.{Active, Prepared}
use Rattle.safety.specs.Vocabulary.{BranchState, Action, Start, Put, Del, Get, End, EndFail, Rollback, Row}
use Rattle.protocol.specs.Branches.{BranchView, no_branch, hinders, call_answer, is_done}
use Rattle.protocol.specs.Facts.{Bound, bound_branches, is_spent}
use Rattle.protocol.specs.Managers.{Branch, all_branches, view_named, is_hindered, branch_after, branches_without, after_call, stored_votes}
use Rattle.protocol.specs.Managers.{named_answer, on_call}
use Rattle.protocol.specs.Tables.{table}
use Rattle.protocol.proofs.TouchedKeys.{changed_ascends}
use Rattle.branch_table.specs.OneCall.{SameView, view_after_done}
use Rattle.branch_table.proofs.Views.{is_of, view_of, shows_push, shows_touched}
use Rattle.branch_table.proofs.CallSteps.{same}
use Rattle.protocol.specs.Holds.{AreInOrder}
use Rattle.protocol.proofs.Manager.Keys.{changed_name}
use Rattle.protocol.proofs.DoneCalls.{IsReadyFor, ready}

-- a call of a spent name that is done is no start
done_named : (spent : Bool) (rows : List Row) (v : BranchView) (busy : Bool) (action : Action)
    → is_done action (named_answer spent rows v busy action) ≡ true → is_done action (call_answer rows v busy action) ≡ true
done_named true rows v busy Start done = absurd (cc (done))
done_named true rows v busy action done = done
done_named false rows v busy action done = done

-- ---- prepared branches stand first

-- a name is that of a prepared branch, whatever stands after those, or it isn't
abbrev pub IsOver : List Branch → XidParts → Type 0
IsOver prepared x = ((branches : List Branch) → view_named (prepared ++ branches) x ≡ view_named branches x)
    ⊎ ((v : BranchView) × (v.state ≡ Some Prepared) × ((branches : List Branch) → view_named (prepared ++ branches) x ≡ v))

over_by : (p : Branch) (prepared : List Branch) (x : XidParts) → p.state ≡ Prepared → IsOver prepared x → (t : Bool) → xid_eq p.xid x ≡ t
    → IsOver (p ∷ prepared) x
over_by p prepared x is rest true e =
    inr (view_of p, ap Some is, λ branches. ap (λ (b : Bool). cond b (view_of p) (view_named (prepared ++ branches) x)) e)
over_by p prepared x is (inl through) false e =
    inl (λ branches. ap (λ (b : Bool). cond b (view_of p) (view_named (prepared ++ branches) x)) e ∙ through branches)
over_by p prepared x is (inr stops) false e =
    inr (stops.0, stops.1, λ branches. ap (λ (b : Bool). cond b (view_of p) (view_named (prepared ++ branches) x)) e ∙ stops.2 branches)

over : (prepared : List Branch) (x : XidParts) → AllByRecursion (λ (p : Branch). p.state ≡ Prepared) prepared → IsOver prepared x
over [] x are = inl (λ branches. refl)
over (p ∷ prepared) x are = over_by p prepared x are.0 (over prepared x are.1) (xid_eq p.xid x) refl

-- the prepared branches of the facts
abbrev pub prepared_in : ℕ → List Bound → List Branch
prepared_in rm bounds =
    filter_map (λ bound. option_map (λ x. record { xid = x; state = Prepared; keys = bound.keys }) (xid_at bound.tx rm)) bounds

bound_prepared : (bound : Bound) (o : Option XidParts) (rest : List Branch) → AllByRecursion (λ (p : Branch). p.state ≡ Prepared) rest
    → AllByRecursion (λ (p : Branch). p.state ≡ Prepared)
    (cons_option (option_map (λ (x : XidParts). record { xid = x; state = Prepared; keys = bound.keys }) o) rest)
bound_prepared bound None rest are = are
bound_prepared bound (Some x) rest are = (refl, are)

all_prepared : (rm : ℕ) (bounds : List Bound) → AllByRecursion (λ (p : Branch). p.state ≡ Prepared) (prepared_in rm bounds)
all_prepared rm [] = tt
all_prepared rm (bound ∷ bounds) = bound_prepared bound (xid_at bound.tx rm) (prepared_in rm bounds) (all_prepared rm bounds)

-- ---- a branch changed

abbrev IsChange : Action → Type 0
IsChange Start = ⊥
IsChange Rollback = ⊥
IsChange action = Unit {0}

changed_shows : (action : Action) (b : Branch) → IsChange action → AreAscending b.keys
    → SameView (view_of (branch_after action b)) (view_after_done (view_of b) action)
changed_shows (Put key value) b is ascending = shows_touched b key (Act.Put value) ascending
changed_shows (Del key) b is ascending = shows_touched b key Act.Del ascending
changed_shows (Get key) b is ascending = shows_touched b key Act.Read ascending
changed_shows End b is ascending = same (view_of (branch_after End b))
changed_shows EndFail b is ascending = same (view_of (branch_after EndFail b))
changed_shows Start b is ascending = absurd is
changed_shows Rollback b is ascending = absurd is

module _ (x : XidParts) (action : Action) where
  abbrev step : Branch → Branch
  step branch = if xid_eq branch.xid x then branch_after action branch else branch

  mapped_by : (b : Branch) (bs : List Branch) → SameView (view_of (branch_after action b)) (view_after_done (view_of b) action)
      → ((view_named bs x).state ≡ Some Active → SameView (view_named (map step bs) x) (view_after_done (view_named bs x) action))
      → (t : Bool) → xid_eq b.xid x ≡ t
      → (cond t (view_of b) (view_named bs x)).state ≡ Some Active
      → SameView (view_named (cond t (branch_after action b) b ∷ map step bs) x)
      (view_after_done (cond t (view_of b) (view_named bs x)) action)
  mapped_by b bs changed rest true e active =
      let own : xid_eq (branch_after action b).xid x ≡ true = ap (λ (y : XidParts). xid_eq y x) (changed_name action b) ∙ e in
      subst
      (λ (t : Bool). SameView (cond t (view_of (branch_after action b)) (view_named (map step bs) x)) (view_after_done (view_of b) action))
      (sym own) changed
  mapped_by b bs changed rest false e active =
      subst (λ (t : Bool). SameView (cond t (view_of b) (view_named (map step bs) x)) (view_after_done (view_named bs x) action)) (sym e)
      (rest active)

  mapped_own : (bs : List Branch) → IsChange action → AreInOrder bs → (view_named bs x).state ≡ Some Active
      → SameView (view_named (map step bs) x) (view_after_done (view_named bs x) action)
  mapped_own [] is ordered active = absurd (cc (active))
  mapped_own (b ∷ bs) is ordered active =
      mapped_by b bs (changed_shows action b is ordered.0) (mapped_own bs is ordered.1) (xid_eq b.xid x) refl active

  mapped_other : (bs : List Branch) (y : XidParts) → y ≢ x → view_named (map step bs) y ≡ view_named bs y
  mapped_other [] y apart = refl
  mapped_other (b ∷ bs) y apart =
      cond_both (xid_eq b.xid x) (branch_after action b) b (λ (c : Branch). view_named (c ∷ map step bs) y ≡ view_named (b ∷ bs) y)
      (λ own.
      let away : xid_eq b.xid y ≡ false = xid_other b.xid y (λ f. apart (sym f ∙ (xid_decides b.xid x).0 own)) in
      let also : xid_eq (branch_after action b).xid y ≡ false = ap (λ (z : XidParts). xid_eq z y) (changed_name action b) ∙ away in
      ap (λ (t : Bool). cond t (view_of (branch_after action b)) (view_named (map step bs) y)) also ∙ mapped_other bs y apart
      ∙ sym (ap (λ (t : Bool). cond t (view_of b) (view_named bs y)) away))
      (λ other. ap (λ (v : BranchView). cond (xid_eq b.xid y) (view_of b) v) (mapped_other bs y apart))

  mapped_ordered : (bs : List Branch) → AreInOrder bs → AreInOrder (map step bs)
  mapped_ordered [] ordered = tt
  mapped_ordered (b ∷ bs) ordered = (
    cond_both (xid_eq b.xid x) _ _ (λ (c : Branch). AreAscending c.keys) (λ e. changed_ascends action b ordered.0) (λ e. ordered.0),
    mapped_ordered bs ordered.1,
  )

-- ---- a branch started

abbrev fresh : XidParts → Branch
fresh x = record { xid = x; state = Active; keys = [] }

-- a name that shows no branch is that of none
name_of_none : (x : XidParts) (bs : List Branch) → (view_named bs x).state ≡ None → list_any (is_of x) bs ≡ false
name_of_none x [] none = refl
name_of_none x (b ∷ bs) none =
    cond_both (xid_eq b.xid x) (view_of b) (view_named bs x) (λ (v : BranchView). v.state ≡ None → list_any (is_of x) (b ∷ bs) ≡ false)
    (λ own here. absurd (cc (here))) (λ other later. or_from (xid_eq b.xid x) (list_any (is_of x) bs) other (name_of_none x bs later)) none

started_ordered : (x : XidParts) (bs : List Branch) → AreInOrder bs → AreInOrder (bs ++ fresh x ∷ [])
started_ordered x [] ordered = (tt, tt)
started_ordered x (b ∷ bs) ordered = (ordered.0, started_ordered x bs ordered.1)

-- ---- a branch taken away

pub gone_own : (x : XidParts) (bs : List Branch) → view_named (branches_without bs x) x ≡ no_branch
gone_own x [] = refl
gone_own x (b ∷ bs) =
    let rest = branches_without bs x in
    cond_both (not (xid_eq b.xid x)) (b ∷ rest) rest (λ (left : List Branch). view_named left x ≡ no_branch)
    (λ kept. ap (λ (t : Bool). cond t (view_of b) (view_named rest x)) (not_true (xid_eq b.xid x) kept) ∙ gone_own x bs)
    (λ cut. gone_own x bs)

pub gone_other : (x y : XidParts) (bs : List Branch) → y ≢ x → view_named (branches_without bs x) y ≡ view_named bs y
gone_other x y [] apart = refl
gone_other x y (b ∷ bs) apart =
    let rest = branches_without bs x in
    cond_both (not (xid_eq b.xid x)) (b ∷ rest) rest (λ (left : List Branch). view_named left y ≡ view_named (b ∷ bs) y)
    (λ kept. ap (λ (v : BranchView). cond (xid_eq b.xid y) (view_of b) v) (gone_other x y bs apart))
    (λ cut.
    let away : xid_eq b.xid y ≡ false = xid_other b.xid y (λ f. apart (sym f ∙ (xid_decides b.xid x).0 (not-false (xid_eq b.xid x) cut))) in
    gone_other x y bs apart ∙ sym (ap (λ (t : Bool). cond t (view_of b) (view_named bs y)) away))

gone_ordered : (x : XidParts) (bs : List Branch) → AreInOrder bs → AreInOrder (branches_without bs x)
gone_ordered x [] ordered = tt
gone_ordered x (b ∷ bs) ordered =
    cond_both (not (xid_eq b.xid x)) _ _ AreInOrder (λ kept. (ordered.0, gone_ordered x bs ordered.1)) (λ cut. gone_ordered x bs ordered.1)

-- ---- all calls

-- what a call that is done leaves of the branches that aren't prepared
pub record IsLeft (x : XidParts) (action : Action) (old new : List Branch) : Type 0 where
  pub own : SameView (view_named new x) (view_after_done (view_named old x) action)
  pub others : (y : XidParts) → y ≢ x → view_named new y ≡ view_named old y
  pub ordered : AreInOrder new

mapped_left : (x : XidParts) (action : Action) (bs : List Branch) → IsChange action → AreInOrder bs → (view_named bs x).state ≡ Some Active
    → IsLeft x action bs (map (step x action) bs)
mapped_left x action bs is ordered active = record {
  own = mapped_own x action bs is ordered active;
  others = mapped_other x action bs;
  ordered = mapped_ordered x action bs ordered;
}

left_by : (x : XidParts) (action : Action) (bs : List Branch) → AreInOrder bs → IsReadyFor action (view_named bs x).state
    → IsLeft x action bs (after_call bs x action)
left_by x Start bs ordered none = record {
  own = subst (λ (v : BranchView). SameView v (view_after_done (view_named bs x) Start))
      (sym (shows_push bs (fresh x) (name_of_none x bs none)).own)
      (record { state = refl; touched = λ key. refl; count = refl; act = λ key. refl });
  others = (shows_push bs (fresh x) (name_of_none x bs none)).others;
  ordered = started_ordered x bs ordered;
}
left_by x Rollback bs ordered is = record {
  own = subst (λ (v : BranchView). SameView v no_branch) (sym (gone_own x bs)) (same no_branch);
  others = λ y apart. gone_other x y bs apart;
  ordered = gone_ordered x bs ordered;
}
left_by x (Put key value) bs ordered active = mapped_left x (Put key value) bs tt ordered active
left_by x (Del key) bs ordered active = mapped_left x (Del key) bs tt ordered active
left_by x (Get key) bs ordered active = mapped_left x (Get key) bs tt ordered active
left_by x End bs ordered active = mapped_left x End bs tt ordered active
left_by x EndFail bs ordered active = mapped_left x EndFail bs tt ordered active

-- no call that is done finds its branch prepared
pub never_prepared : (action : Action) (state : Option BranchState) → state ≡ Some Prepared → IsReadyFor action state → ⊥
never_prepared Start state e is = absurd (cc (e, is))
never_prepared Rollback state e is = is e
never_prepared (Put key value) state e is = absurd (cc (e, is))
never_prepared (Del key) state e is = absurd (cc (e, is))
never_prepared (Get key) state e is = absurd (cc (e, is))
never_prepared End state e is = absurd (cc (e, is))
never_prepared EndFail state e is = absurd (cc (e, is))

-- ---- at a resource manager: its prepared branches stand first

-- how the branches of resource manager rm show, those that are prepared among them
abbrev pub branch_view : (rm : ℕ) → List Fact → List Branch → XidParts → BranchView
branch_view rm facts branches = view_named (all_branches rm (bound_branches facts) branches)

module _ (rm : ℕ) (facts : List Fact) where
  pub each_over : (x : XidParts) → IsOver (prepared_in rm (bound_branches facts)) x
  each_over x = over (prepared_in rm (bound_branches facts)) x (all_prepared rm (bound_branches facts))

  pub through_own : (x : XidParts) (action : Action) (branches : List Branch)
      → IsReadyFor action (branch_view rm facts branches x).state → branch_view rm facts branches x ≡ view_named branches x
  through_own x action branches is = elim (each_over x) [
    | inl through ↦ through branches
    | inr stops ↦
        absurd (never_prepared action (stops.0).state stops.1
        (subst (λ (v : BranchView). IsReadyFor action v.state) (stops.2 branches) is))
  ]

  -- a call that is done finds its branch ready for it
  pub call_ready : (first : List Row) (branches : List Branch) (x : XidParts) (action : Action)
      → is_done action (on_call rm (stored_votes rm facts) (table first facts) branches x action).answer ≡ true
      → IsReadyFor action (branch_view rm facts branches x).state
  call_ready first branches x action done =
      let v = branch_view rm facts branches x in
      let busy = is_hindered (hinders action) (all_branches rm (bound_branches facts) branches) x in
      ready (table first facts) v busy action (done_named (is_spent rm facts x) (table first facts) v busy action done)

  -- a call that is done leaves of its branch what it leaves of one that shows so, and all others as they were
  pub call_leaves : (first : List Row) (branches : List Branch) (x : XidParts) (action : Action) → AreInOrder branches
      → is_done action (on_call rm (stored_votes rm facts) (table first facts) branches x action).answer ≡ true
      → IsReadyFor action (view_named branches x).state
      × IsLeft x action branches (on_call rm (stored_votes rm facts) (table first facts) branches x action).memory
  call_leaves first branches x action ordered done =
      let is = call_ready first branches x action done in
      let own = subst (λ (u : BranchView). IsReadyFor action u.state) (through_own x action branches is) is in (
        own,
        subst (IsLeft x action branches) (sym (cond-true
            (is_done action (on_call rm (stored_votes rm facts) (table first facts) branches x action).answer)
            (after_call branches x action) branches done))
            (left_by x action branches ordered own),
      )

  -- a call that isn't done leaves all
  pub undone_leaves : (first : List Row) (branches : List Branch) (x : XidParts) (action : Action)
      → is_done action (on_call rm (stored_votes rm facts) (table first facts) branches x action).answer ≡ false
      → (on_call rm (stored_votes rm facts) (table first facts) branches x action).memory ≡ branches
  undone_leaves first branches x action undone =
      ap (λ (b : Bool). if b then after_call branches x action else branches) undone

  -- a name that no branch has but prepared ones
  pub prepared_or_none : (branches : List Branch) (x : XidParts) → view_named branches x ≡ no_branch
      → ((branch_view rm facts branches x).state ≡ None) ⊎ ((branch_view rm facts branches x).state ≡ Some Prepared)
  prepared_or_none branches x none = elim (each_over x) [
    | inl through ↦ inl (ap (λ (v : BranchView). v.state) (through branches ∙ none))
    | inr stops ↦ inr (ap (λ (v : BranchView). v.state) (stops.2 branches) ∙ stops.1)
  ]
