-- Several things added one after the other, as a fact and the messages that follow it.
-- Needed by Acceptor.Effects, Argument.Events, Leader.Allowed, Manager.Allowed, World.AllowedEffects and World.Growth.
use Rattle.std.proofs.Common.{◌≡◌, ◌⊎◌, ℕ, zero, suc, List, [], ◌∷◌, Some, None, inl, inr, refl, subst, ap, arith}
use Rattle.std.specs.Prelude.{Contains}
pub use Rattle.protocol.proofs.Lists.{Contains-head, Contains-one, Contains-cases, Contains-tail}
use Rattle.safety.specs.Items.{Item, Promised, Accepted, Began, Voted, Committed, StoredAbort, P1b, P2a, P2b, Commit, Abort, Setting}
use Rattle.safety.specs.Items.{IsAllowed, IsGrown, IsView, IsState, manager_of}
use Rattle.safety.specs.CommitSteps.{View, working, prepared, committed, aborted, IsCommitStep}
use Rattle.safety.specs.Invariant.{Invariant}
use Rattle.safety.proofs.Argument.Preservation.{invariant_kept, IsDecided-kept, IsMajorityPick-kept, IsReportOfAccept-kept}
use Rattle.safety.proofs.Argument.Views.{one_step}

-- what stands once x does too
abbrev pub with_item : {Tx : Type 0} → (Item Tx → Type 0) → Item Tx → Item Tx → Type 0
with_item Has x y = Has y ⊎ (x ≡ y)

-- each is allowed once those before it stand
abbrev pub AreAllowed : {Tx : Type 0} (c : Setting Tx) (Has : Item Tx → Type 0) → List (Item Tx) → Type 0
AreAllowed c Has [] = Unit {0}
AreAllowed c Has (x ∷ xs) = IsAllowed c Has x × AreAllowed c (with_item Has x) xs

-- what stands now is what stood and the items of the list
pub record IsGrownBy {Tx : Type 0} (Has : Item Tx → Type 0) (added : List (Item Tx)) (Now : Item Tx → Type 0) : Type 0 where
  pub kept : {y : Item Tx} → Has y → Now y
  pub joined : {y : Item Tx} → Contains added y → Now y
  pub only : {y : Item Tx} → Now y → Has y ⊎ Contains added y

IsGrown-with_item : {Tx : Type 0} (Has : Item Tx → Type 0) (x : Item Tx) → IsGrown Has (Some x) (with_item Has x)
IsGrown-with_item Has x = record { kept = λ h. inl h; only = λ h. elim h [ inl old ↦ inl old | inr e ↦ inr (ap Some e) ] }

IsGrownBy-one : {Tx : Type 0} (Has : Item Tx → Type 0) (x : Item Tx) → IsGrownBy Has (x ∷ []) (with_item Has x)
IsGrownBy-one Has x = record {
  kept = λ h. inl h;
  joined = λ {y} h. inr (Contains-one x y h);
  only = λ {y} h. elim h [ inl old ↦ inl old | inr e ↦ inr (subst (Contains (x ∷ [])) e (Contains-head x [])) ];
}

-- the same growth after its first item
IsGrownBy-rest : {Tx : Type 0} (Has Now : Item Tx → Type 0) (x : Item Tx) (xs : List (Item Tx))
    → IsGrownBy Has (x ∷ xs) Now → IsGrownBy (with_item Has x) xs Now
IsGrownBy-rest Has Now x xs grown = record {
  kept = λ {y} h. elim h [ inl old ↦ grown.kept old | inr e ↦ subst Now e (grown.joined (Contains-head x xs)) ];
  joined = λ {y} h. grown.joined (Contains-tail x xs y h);
  only = λ {y} h. elim (grown.only h) [
    | inl old ↦ inl (inl old)
    | inr new ↦ elim (Contains-cases x xs y new) [ inl e ↦ inl (inr e) | inr rest ↦ inr rest ]
  ];
}

-- nothing is added
IsGrown-none : {Tx : Type 0} (Has Now : Item Tx → Type 0) → IsGrownBy Has [] Now → IsGrown Has None Now
IsGrown-none Has Now grown = record {
  kept = grown.kept;
  only = λ h. elim (grown.only h) [ inl old ↦ inl old | inr none ↦ absurd (omega (arith, none.1)) ];
}

-- a list of items, each allowed in its turn, keeps the invariant
pub invariant_through : {Tx : Type 0} (c : Setting Tx) (Has Now : Item Tx → Type 0) (xs : List (Item Tx))
    → Invariant c Has → AreAllowed c Has xs → IsGrownBy Has xs Now → Invariant c Now
invariant_through c Has Now [] inv ok grown = invariant_kept c Has Now None inv tt (IsGrown-none Has Now grown)
invariant_through c Has Now (x ∷ xs) inv ok grown =
    invariant_through c (with_item Has x) Now xs
    (invariant_kept c Has (with_item Has x) (Some x) inv ok.0 (IsGrown-with_item Has x)) ok.1 (IsGrownBy-rest Has Now x xs grown)

-- no view depends on these items
abbrev pub ChangeNoView : {Tx : Type 0} → List (Item Tx) → Type 0
ChangeNoView {Tx} xs = (x : Item Tx) → Contains xs x → manager_of x ≡ None

-- no view depends on the items after the first
abbrev pub ChangeNoViewAfterFirst : {Tx : Type 0} → List (Item Tx) → Type 0
ChangeNoViewAfterFirst [] = Unit {0}
ChangeNoViewAfterFirst (x ∷ xs) = ChangeNoView xs

module _ {Tx : Type 0} (Has Now : Item Tx → Type 0) (tx : Tx) (r : ℕ) (kept : (y : Item Tx) → Has y → Now y)
    (was : (y : Item Tx) → Now y → manager_of y ≡ Some r → Has y) where
  -- where no fact of r was added, r had the view that it has now
  pub IsView-before : (v : View) → IsView Now tx r v → IsView Has tx r v
  IsView-before working k = ((λ v h. k.0 v (kept _ h)), (λ h. k.1 (kept _ h)), (λ h. k.2 (kept _ h)))
  IsView-before prepared k = (was _ k.0 refl, (λ h. k.1 (kept _ h)), (λ h. k.2 (kept _ h)))
  IsView-before committed k = was _ k refl
  IsView-before aborted (inl vote) = inl (was _ vote refl)
  IsView-before aborted (inr dropped) = inr (was _ dropped refl)

module _ {Tx : Type 0} (c : Setting Tx) (Has Now : Item Tx → Type 0) (inv : Invariant c Has) (tx : Tx) (s t : ℕ → View)
    (before : IsState c Has tx s) (after : IsState c Now tx t) where
  -- a list of which only the first item can change a view moves the views of a transaction by one step at most
  pub one_step_through : (xs : List (Item Tx)) → AreAllowed c Has xs → IsGrownBy Has xs Now → ChangeNoViewAfterFirst xs
      → IsCommitStep (c.is_participant tx) s t
  one_step_through [] ok grown quiet = one_step c Has Now None inv tt (IsGrown-none Has Now grown) tx s before t after
  one_step_through (x ∷ xs) ok grown quiet =
      let rest = IsGrownBy-rest Has Now x xs grown in
      one_step c Has (with_item Has x) (Some x) inv ok.0 (IsGrown-with_item Has x) tx s before t
      (λ r named. IsView-before (with_item Has x) Now tx r (λ y h. rest.kept h)
      (λ y h by. elim (rest.only h) [ inl old ↦ old | inr new ↦ absurd (cc (by, quiet y new)) ]) (t r) (after r named))

-- adding the first leaves the second allowed
abbrev pub KeepsAllowed : {Tx : Type 0} → Item Tx → Item Tx → Type 0
KeepsAllowed (Promised a tx i b) (Accepted e ux j d v) = ⊥
KeepsAllowed (Accepted a tx i b v) (P1b ux j d report e) = ⊥
KeepsAllowed (Voted r tx v) (Voted q ux w) = ⊥
KeepsAllowed (Committed r tx) (Voted q ux w) = ⊥
KeepsAllowed (StoredAbort r tx) (Voted q ux w) = ⊥
KeepsAllowed (P2a tx i b v) (P2a ux j d w) = tx ≡ ux → i ≡ j → b ≡ d → v ≡ w
KeepsAllowed _ _ = Unit {0}

-- what is allowed stays so while only items that leave it allowed are added
module _ {Tx : Type 0} (c : Setting Tx) (Has Now : Item Tx → Type 0) (added : List (Item Tx)) (grown : IsGrownBy Has added Now) where
  stays : (y : Item Tx) → Has y → Now y
  stays y h = grown.kept h

  pub allowed_still : (y : Item Tx) → ((x : Item Tx) → Contains added x → KeepsAllowed x y) → IsAllowed c Has y → IsAllowed c Now y
  allowed_still (Promised a tx i b) free ok = tt
  allowed_still (Accepted a tx i b v) free ok = record {
    sent = grown.kept ok.sent;
    promise_kept = λ h. elim (grown.only h) [ inl old ↦ ok.promise_kept old | inr new ↦ absurd (free _ new) ];
  }
  allowed_still (Began l tx b) free ok = tt
  allowed_still (Voted r tx v) free ok = record {
    named = ok.named;
    unvoted = λ h. elim (grown.only h) [ inl old ↦ ok.unvoted old | inr new ↦ absurd (free _ new) ];
    uncommitted = λ h. elim (grown.only h) [ inl old ↦ ok.uncommitted old | inr new ↦ absurd (free _ new) ];
    undropped = λ h. elim (grown.only h) [ inl old ↦ ok.undropped old | inr new ↦ absurd (free _ new) ];
  }
  allowed_still (Committed r tx) free ok = (grown.kept ok.0, grown.kept ok.1)
  allowed_still (StoredAbort r tx) free ok = grown.kept ok
  allowed_still (P1b tx i b report a) free ok = record {
    promised = grown.kept ok.promised;
    reported = IsReportOfAccept-kept stays tx i b a report ok.reported;
    covers = λ h l. elim (grown.only h) [ inl old ↦ ok.covers old l | inr new ↦ absurd (free _ new) ];
  }
  allowed_still (P2a tx i zero v) free ok = grown.kept ok
  allowed_still (P2a tx i (suc b) v) free ok = record {
    owned = grown.kept ok.owned;
    picked = IsMajorityPick-kept stays ok.picked;
    alone = λ h. elim (grown.only h) [ inl old ↦ ok.alone old | inr new ↦ free _ new refl refl refl ];
  }
  allowed_still (P2b tx i b v a) free ok = grown.kept ok
  allowed_still (Commit tx) free ok = λ r named. IsDecided-kept stays (ok r named)
  allowed_still (Abort tx) free ok = (ok.0, ok.1, IsDecided-kept stays ok.2)

-- items that are allowed at once are allowed in turn, where each leaves the others allowed
pub allowed_in_turn : {Tx : Type 0} (c : Setting Tx) (Has : Item Tx → Type 0) (xs : List (Item Tx))
    → ((x : Item Tx) → Contains xs x → IsAllowed c Has x)
    → ((x y : Item Tx) → Contains xs x → Contains xs y → KeepsAllowed x y) → AreAllowed c Has xs
allowed_in_turn c Has [] ok free = tt
allowed_in_turn c Has (x ∷ xs) ok free = (
  ok x (Contains-head x xs),
  allowed_in_turn c (with_item Has x) xs
      (λ y h. allowed_still c Has (with_item Has x) (x ∷ []) (IsGrownBy-one Has x) y
      (λ z k. subst (λ w. KeepsAllowed w y) (Contains-one x z k) (free x y (Contains-head x xs) (Contains-tail x xs y h)))
      (ok y (Contains-tail x xs y h)))
      (λ y z h k. free y z (Contains-tail x xs y h) (Contains-tail x xs z k)),
)
