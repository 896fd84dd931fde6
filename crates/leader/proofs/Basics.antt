-- Tests on names, numbers and lists.
-- Needed by 13 files here; crate node_core.
use Rattle.std.proofs.Common.{◌≡◌, ◌∙◌, ℕ, Bool, true, false, ◌&&◌, ◌||◌, ◌==◌, List, [], ◌∷◌, Option, None, sym, ap, refl, inl, inr}
use Rattle.std.specs.Prelude.{cond, filter, filter_map}
use Rattle.std.specs.List.{list_any, cons_option}
use Rattle.std.proofs.lemmas.Bool.{eqb-true, eqb-false, eq-eqb, cases_Bool}
use Rattle.xid.specs.Transactions.{TxParts, tx_eq}
use Rattle.xid.proofs.Deciding.{tx_decides}

-- ---- names and numbers

-- transactions that pass the test are the same
pub same_tx : (a b : TxParts) → tx_eq a b ≡ true → a ≡ b
same_tx a b h = (tx_decides a b).0 h

-- a transaction passes the test with itself
pub tx_self : (a : TxParts) → tx_eq a a ≡ true
tx_self a = (tx_decides a a).1 refl

-- so does a number
pub nat_self : (a : ℕ) → (a == a) ≡ true
nat_self a = eq-eqb a a refl

-- a test that is neither true nor anything but false
pub is_false : (t : Bool) → (t ≡ true → ⊥) → t ≡ false
is_false true h = absurd (h refl)
is_false false h = refl

-- the test of numbers reads both ways
pub nat_turned : (a b : ℕ) → (a == b) ≡ (b == a)
nat_turned a b = elim (cases_Bool (a == b)) [
  | inl h ↦ h ∙ sym (eq-eqb b a (sym (eqb-true a b h)))
  | inr h ↦ h ∙ sym (is_false (b == a) (λ e. eqb-false a b h (sym (eqb-true b a e))))
]

-- ---- and

-- and false is false
pub and_no : (t : Bool) → (t && false) ≡ false
and_no true = refl
and_no false = refl

-- what ends in false is false
pub and_false_3 : (x y z : Bool) → (x && y && (z && false)) ≡ false
and_false_3 true true true = refl
and_false_3 true true false = refl
and_false_3 true false z = refl
and_false_3 false y z = refl

-- so it is with one test more
pub and_false_4 : (x y z w : Bool) → (x && y && z && (w && false)) ≡ false
and_false_4 true true true true = refl
and_false_4 true true true false = refl
and_false_4 true true false w = refl
and_false_4 true false z w = refl
and_false_4 false y z w = refl

-- ---- what a filter keeps

-- a test that no dropped thing passes
pub any_of_kept : {X : Type 0} (p f : X → Bool) (xs : List X) → ((x : X) → p x ≡ false → f x ≡ false)
    → list_any f (filter p xs) ≡ list_any f xs
any_of_kept p f [] dropped = refl
any_of_kept p f (x ∷ xs) dropped =
    elim (p x) as (λ t. p x ≡ t → list_any f (cond t (x ∷ filter p xs) (filter p xs)) ≡ (f x || list_any f xs)) [
      | true ↦ λ e. ap (λ t. f x || t) (any_of_kept p f xs dropped)
      | false ↦ λ e. any_of_kept p f xs dropped ∙ ap (λ t. t || list_any f xs) (sym (dropped x e))
    ] refl

-- what is made of what is kept, where nothing is made of the rest
pub mapped_of_kept : {X Y : Type 0} (p : X → Bool) (f : X → Option Y) (xs : List X) → ((x : X) → p x ≡ false → f x ≡ None)
    → filter_map f (filter p xs) ≡ filter_map f xs
mapped_of_kept p f [] dropped = refl
mapped_of_kept p f (x ∷ xs) dropped =
    elim (p x) as (λ t. p x ≡ t → filter_map f (cond t (x ∷ filter p xs) (filter p xs)) ≡ cons_option (f x) (filter_map f xs)) [
      | true ↦ λ e. ap (λ ys. cons_option (f x) ys) (mapped_of_kept p f xs dropped)
      | false ↦ λ e. mapped_of_kept p f xs dropped ∙ ap (λ o. cons_option o (filter_map f xs)) (sym (dropped x e))
    ] refl

-- a test that no kept thing passes
pub none_of_kept : {X : Type 0} (p f : X → Bool) (xs : List X) → ((x : X) → p x ≡ true → f x ≡ false) → list_any f (filter p xs) ≡ false
none_of_kept p f [] kept = refl
none_of_kept p f (x ∷ xs) kept =
    elim (p x) as (λ t. p x ≡ t → list_any f (cond t (x ∷ filter p xs) (filter p xs)) ≡ false) [
      | true ↦ λ e. ap (λ t. t || list_any f (filter p xs)) (kept x e) ∙ none_of_kept p f xs kept
      | false ↦ λ e. none_of_kept p f xs kept
    ] refl

-- what is kept makes nothing, where nothing is made of it
pub nothing_of_kept : {X Y : Type 0} (p : X → Bool) (f : X → Option Y) (xs : List X) → ((x : X) → p x ≡ true → f x ≡ None)
    → filter_map f (filter p xs) ≡ []
nothing_of_kept p f [] kept = refl
nothing_of_kept p f (x ∷ xs) kept =
    elim (p x) as (λ t. p x ≡ t → filter_map f (cond t (x ∷ filter p xs) (filter p xs)) ≡ []) [
      | true ↦ λ e. ap (λ o. cons_option o (filter_map f (filter p xs))) (kept x e) ∙ nothing_of_kept p f xs kept
      | false ↦ λ e. nothing_of_kept p f xs kept
    ] refl
