-- One event of a run: facts that join, then messages that are sent.
-- Needed by Acceptor.Effects, Leader.Allowed, Manager.Allowed, World.AllowedEffects and World.SafeSteps.
use Rattle.std.proofs.Common.{◌≡◌, ◌⊎◌, ℕ, List, ◌++◌, None, inl, inr, refl, subst}
use Rattle.std.specs.Prelude.{Contains}
use Rattle.std.proofs.lemmas.List.Elements.{Contains-append_cases, Contains-append_left, Contains-append_right}
use Rattle.safety.specs.Items.{Vote, Item, P1b, P2a, P2b, Commit, Abort, Setting, IsAllowed, IsState, manager_of}
use Rattle.safety.specs.CommitSteps.{View, IsCommitStep}
use Rattle.safety.specs.Invariant.{Invariant}
use Rattle.safety.proofs.Argument.Additions.{AreAllowed, IsGrownBy, ChangeNoViewAfterFirst, KeepsAllowed}
use Rattle.safety.proofs.Argument.Additions.{invariant_through, one_step_through, allowed_in_turn, IsView-before}

-- a message of the paper
abbrev pub IsMessageItem : {Tx : Type 0} → Item Tx → Type 0
IsMessageItem (P1b tx i b report a) = Unit {0}
IsMessageItem (P2a tx i b v) = Unit {0}
IsMessageItem (P2b tx i b v a) = Unit {0}
IsMessageItem (Commit tx) = Unit {0}
IsMessageItem (Abort tx) = Unit {0}
IsMessageItem _ = ⊥

-- what stands once these items do too
abbrev pub with_items : {Tx : Type 0} → (Item Tx → Type 0) → List (Item Tx) → Item Tx → Type 0
with_items Has xs y = Has y ⊎ Contains xs y

-- the facts are allowed in turn, and only the first can change a view; each message is allowed once the facts stand;
-- what is proposed for one instance in one ballot is one value
pub record IsAllowedEvent {Tx : Type 0} (c : Setting Tx) (Has : Item Tx → Type 0) (facts messages : List (Item Tx))
    (Now : Item Tx → Type 0) : Type 0 where
  pub facts_allowed : AreAllowed c Has facts
  pub one_view : ChangeNoViewAfterFirst facts
  pub are_messages : (x : Item Tx) → Contains messages x → IsMessageItem x
  pub messages_allowed : (x : Item Tx) → Contains messages x → IsAllowed c (with_items Has facts) x
  pub agree : {tx : Tx} {i b : ℕ} {v w : Vote} → Contains messages (P2a tx i b v) → Contains messages (P2a tx i b w) → v ≡ w
  pub grown : IsGrownBy Has (facts ++ messages) Now

message_is_quiet : {Tx : Type 0} (x : Item Tx) → IsMessageItem x → manager_of x ≡ None
message_is_quiet (P1b tx i b report a) m = refl
message_is_quiet (P2a tx i b v) m = refl
message_is_quiet (P2b tx i b v a) m = refl
message_is_quiet (Commit tx) m = refl
message_is_quiet (Abort tx) m = refl
message_is_quiet _ m = absurd m

messages_are_free : {Tx : Type 0} (x y : Item Tx) → IsMessageItem x → IsMessageItem y
    → ((tx : Tx) (i b : ℕ) (v w : Vote) → x ≡ P2a tx i b v → y ≡ P2a tx i b w → v ≡ w) → KeepsAllowed x y
messages_are_free (P1b tx i b report a) y m k agree = tt
messages_are_free (P2a tx i b v) (P2a ux j d w) m k agree =
    λ e f g. let same : P2a ux j d w ≡ P2a tx i b w = cc in agree tx i b v w refl same
messages_are_free (P2a tx i b v) _ m k agree = tt
messages_are_free (P2b tx i b v a) y m k agree = tt
messages_are_free (Commit tx) y m k agree = tt
messages_are_free (Abort tx) y m k agree = tt
messages_are_free _ y m k agree = absurd m

pub IsGrownBy-with_items : {Tx : Type 0} (Has : Item Tx → Type 0) (xs : List (Item Tx)) → IsGrownBy Has xs (with_items Has xs)
IsGrownBy-with_items Has xs = record { kept = λ h. inl h; joined = λ h. inr h; only = λ h. h }

IsGrownBy-second : {Tx : Type 0} (Has Now : Item Tx → Type 0) (xs ys : List (Item Tx))
    → IsGrownBy Has (xs ++ ys) Now → IsGrownBy (with_items Has xs) ys Now
IsGrownBy-second Has Now xs ys grown = record {
  kept = λ {y} h. elim h [ inl old ↦ grown.kept old | inr new ↦ grown.joined (Contains-append_left xs ys y new) ];
  joined = λ {y} h. grown.joined (Contains-append_right xs ys y h);
  only = λ {y} h. elim (grown.only h) [
    | inl old ↦ inl (inl old)
    | inr new ↦ elim (Contains-append_cases xs ys y new) [ inl first ↦ inl (inr first) | inr second ↦ inr second ]
  ];
}

module _ {Tx : Type 0} (c : Setting Tx) (Has Now : Item Tx → Type 0) (facts messages : List (Item Tx))
    (inv : Invariant c Has) (event : IsAllowedEvent c Has facts messages Now) where
  after_facts : Invariant c (with_items Has facts)
  after_facts = invariant_through c Has (with_items Has facts) facts inv event.facts_allowed (IsGrownBy-with_items Has facts)

  -- each event keeps the invariant
  pub event_keeps_invariant : Invariant c Now
  event_keeps_invariant = invariant_through c (with_items Has facts) Now messages after_facts
      (allowed_in_turn c (with_items Has facts) messages event.messages_allowed
      (λ x y h k. messages_are_free x y (event.are_messages x h) (event.are_messages y k)
      (λ tx i b v w e f. event.agree (subst (Contains messages) e h) (subst (Contains messages) f k))))
      (IsGrownBy-second Has Now facts messages event.grown)

  -- each event moves the views of each transaction by one step of the machine at most
  pub event_moves_one_step : (tx : Tx) (s t : ℕ → View) → IsState c Has tx s → IsState c Now tx t → IsCommitStep (c.is_participant tx) s t
  event_moves_one_step tx s t before after =
      let rest = IsGrownBy-second Has Now facts messages event.grown in
      one_step_through c Has (with_items Has facts) inv tx s t before
      (λ r named. IsView-before (with_items Has facts) Now tx r (λ y h. rest.kept h)
      (λ y h by. elim (rest.only h) [ inl old ↦ old | inr new ↦ absurd (cc (by, message_is_quiet y (event.are_messages y new))) ])
      (t r) (after r named))
      facts event.facts_allowed (IsGrownBy-with_items Has facts) event.one_view
