-- The views of a transaction's participants: consistent, and moved by the steps of the paper's machine.
-- Needed by Argument.Additions and World.Reachable; crate progress.
use Rattle.std.proofs.Common.{◌≡◌, ◌≢◌, ◌⊎◌, ℕ, Bool, true, false, IsTrue, Option, Some, None, inl, inr, refl, sym, subst, ap}
use Rattle.safety.specs.Items.{Prepared, Aborted, Item, Committed, Commit, Setting, IsAllowedIfAny, IsGrown, IsView, IsState, manager_of}
use Rattle.safety.specs.CommitSteps.{View, working, prepared, committed, aborted, IsReady, IsCommitMove, IsCommitStep, IsConsistent}
use Rattle.safety.specs.Invariant.{Invariant}
use Rattle.safety.proofs.Argument.Preservation.{invariant_kept, allowed_as}
use Rattle.safety.proofs.Argument.Agreement.{commit_finds_prepared, one_outcome}

module _ {Tx : Type 0} (c : Setting Tx) (Has : Item Tx → Type 0) (inv : Invariant c Has) where
  -- no resource manager is committed while another is aborted
  pub not_split : {tx : Tx} {r q : ℕ} → Has (Committed r tx) → IsView Has tx q aborted → ⊥
  not_split {tx} {r} {q} h (inl vote) =
      let e : Prepared ≡ Aborted = inv.vote_once (commit_finds_prepared c Has inv (inv.commit_sent h) q (inv.voter_named vote)) vote in
      absurd (cc)
  not_split h (inr dropped) = one_outcome c Has inv (inv.commit_sent h) (inv.abort_sent dropped)

  pub consistent : (tx : Tx) (s : ℕ → View) → IsState c Has tx s → IsConsistent (c.is_participant tx) s
  consistent tx s state r q named_r named_q e f =
      not_split (subst (IsView Has tx r) e (state r named_r)) (subst (IsView Has tx q) f (state q named_q))

  -- where Commit was sent, each participant is prepared or committed
  pub commit_finds_ready : {tx : Tx} {r : ℕ} → Has (Commit tx) → IsTrue (c.is_participant tx r) → (x : View) → IsView Has tx r x → IsReady x
  commit_finds_ready {tx} {r} h named working v = absurd (v.0 Prepared (commit_finds_prepared c Has inv h r named))
  commit_finds_ready h named prepared v = tt
  commit_finds_ready h named committed v = tt
  commit_finds_ready {tx} {r} h named aborted (inl vote) =
      let e : Prepared ≡ Aborted = inv.vote_once (commit_finds_prepared c Has inv h r named) vote in
      absurd (cc)
  commit_finds_ready h named aborted (inr dropped) = absurd (one_outcome c Has inv h (inv.abort_sent dropped))

  -- a resource manager has one view
  pub one_view : (tx : Tx) (r : ℕ) (x y : View) → IsView Has tx r x → IsView Has tx r y → x ≡ y
  one_view tx r working working h k = refl
  one_view tx r working prepared h k = absurd (h.0 Prepared k.0)
  one_view tx r working committed h k = absurd (h.1 k)
  one_view tx r working aborted h (inl vote) = absurd (h.0 Aborted vote)
  one_view tx r working aborted h (inr dropped) = absurd (h.2 dropped)
  one_view tx r prepared working h k = absurd (k.0 Prepared h.0)
  one_view tx r prepared prepared h k = refl
  one_view tx r prepared committed h k = absurd (h.1 k)
  one_view tx r prepared aborted h (inl vote) = let e : Prepared ≡ Aborted = inv.vote_once h.0 vote in absurd (cc)
  one_view tx r prepared aborted h (inr dropped) = absurd (h.2 dropped)
  one_view tx r committed working h k = absurd (k.1 h)
  one_view tx r committed prepared h k = absurd (k.1 h)
  one_view tx r committed committed h k = refl
  one_view tx r committed aborted h k = absurd (not_split h k)
  one_view tx r aborted working (inl vote) k = absurd (k.0 Aborted vote)
  one_view tx r aborted working (inr dropped) k = absurd (k.2 dropped)
  one_view tx r aborted prepared (inl vote) k = let e : Prepared ≡ Aborted = inv.vote_once k.0 vote in absurd (cc)
  one_view tx r aborted prepared (inr dropped) k = absurd (k.2 dropped)
  one_view tx r aborted committed h k = absurd (not_split k h)
  one_view tx r aborted aborted h k = refl

-- the resource manager whose view what is added can change
abbrev manager_added : {Tx : Type 0} → Option (Item Tx) → Option ℕ
manager_added None = None
manager_added (Some x) = manager_of x

module _ {Tx : Type 0} (c : Setting Tx) (Has Now : Item Tx → Type 0) (added : Option (Item Tx))
    (inv : Invariant c Has) (ok : IsAllowedIfAny c Has added) (grown : IsGrown Has added Now)
    (tx : Tx) (s : ℕ → View) (state : IsState c Has tx s) where
  now : Invariant c Now
  now = invariant_kept c Has Now added inv ok grown

  -- a resource manager that is aborted now finds none committed before
  none_committed : (r : ℕ) → IsView Now tx r aborted → (q : ℕ) → IsTrue (c.is_participant tx q) → s q ≢ committed
  none_committed r h q named e = not_split c Now now (grown.kept (subst (IsView Has tx q) e (state q named))) h

  -- where Commit was sent before, all are prepared or committed
  all_ready : Has (Commit tx) → (q : ℕ) → IsTrue (c.is_participant tx q) → IsReady (s q)
  all_ready h q named = commit_finds_ready c Has inv h named (s q) (state q named)

  -- the view of r stays, or makes a move that the added fact of r caused
  moved : (r : ℕ) (x y : View) → IsView Has tx r x → IsView Now tx r y
      → (y ≡ x) ⊎ (IsCommitMove (c.is_participant tx) s x y × (manager_added added ≡ Some r))
  moved r working working h k = inl refl
  moved r working prepared h k = elim (grown.only k.0) [
    | inl old ↦ absurd (h.0 Prepared old)
    | inr e ↦ inr (tt, ap manager_added e)
  ]
  moved r working committed h k = elim (grown.only k) [
    | inl old ↦ absurd (h.1 old)
    | inr e ↦ absurd (h.0 Prepared (allowed_as c Has added (Committed r tx) ok e).1)
  ]
  moved r working aborted h (inl vote) = elim (grown.only vote) [
    | inl old ↦ absurd (h.0 Aborted old)
    | inr e ↦ inr (none_committed r (inl vote), ap manager_added e)
  ]
  moved r working aborted h (inr dropped) = elim (grown.only dropped) [
    | inl old ↦ absurd (h.2 old)
    | inr e ↦ inr (none_committed r (inr dropped), ap manager_added e)
  ]
  moved r prepared working h k = absurd (k.0 Prepared (grown.kept h.0))
  moved r prepared prepared h k = inl refl
  moved r prepared committed h k = elim (grown.only k) [
    | inl old ↦ absurd (h.1 old)
    | inr e ↦ inr (all_ready (allowed_as c Has added (Committed r tx) ok e).0, ap manager_added e)
  ]
  moved r prepared aborted h (inl vote) = let e : Prepared ≡ Aborted = now.vote_once (grown.kept h.0) vote in absurd (cc)
  moved r prepared aborted h (inr dropped) = elim (grown.only dropped) [
    | inl old ↦ absurd (h.2 old)
    | inr e ↦ inr (none_committed r (inr dropped), ap manager_added e)
  ]
  moved r committed y h k = inl (one_view c Now now tx r y committed k (grown.kept h))
  moved r aborted y (inl vote) k = inl (one_view c Now now tx r y aborted k (inl (grown.kept vote)))
  moved r aborted y (inr dropped) k = inl (one_view c Now now tx r y aborted k (inr (grown.kept dropped)))

  -- where only the view of m can move
  one_step_at : (m : ℕ) (named : Bool) (t : ℕ → View) → IsState c Now tx t → manager_added added ≡ Some m → c.is_participant tx m ≡ named
      → IsCommitStep (c.is_participant tx) s t
  one_step_at m true t after e is = elim (moved m (s m) (t m) (state m is) (after m is)) [
    | inl same ↦ inl (λ r named. elim (moved r (s r) (t r) (state r named) (after r named)) [
      | inl stays ↦ stays
      | inr move ↦ let at : m ≡ r = cc (e, move.1) in subst (λ x. t x ≡ s x) at same
    ])
    | inr move ↦ inr (record {
      mover = m;
      named = is;
      moves = move.0;
      others = λ r named apart. elim (moved r (s r) (t r) (state r named) (after r named)) [
        | inl stays ↦ stays
        | inr other ↦ absurd (apart (cc (e, other.1)))
      ];
    })
  ]
  one_step_at m false t after e is = inl (λ r named. elim (moved r (s r) (t r) (state r named) (after r named)) [
    | inl stays ↦ stays
    | inr move ↦
        let at : m ≡ r = cc (e, move.1) in
        let n : true ≡ false = cc (subst (λ x. c.is_participant tx x ≡ true) (sym at) named, is) in absurd (cc)
  ])

  -- what is added tells whose view can move
  one_step_by : (m : Option ℕ) (t : ℕ → View) → IsState c Now tx t → manager_added added ≡ m → IsCommitStep (c.is_participant tx) s t
  one_step_by None t after e = inl (λ r named. elim (moved r (s r) (t r) (state r named) (after r named)) [
    | inl stays ↦ stays
    | inr move ↦ absurd (cc (e, move.1))
  ])
  one_step_by (Some m) t after e = one_step_at m (c.is_participant tx m) t after e refl

  -- adding what is allowed, or nothing, moves the views of a transaction by one step of the machine at most
  pub one_step : (t : ℕ → View) → IsState c Now tx t → IsCommitStep (c.is_participant tx) s t
  one_step t after = one_step_by (manager_added added) t after refl
