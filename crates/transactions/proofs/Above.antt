-- Of the transactions that things are about, those that pass a test come in the order in which they come of the things that are about them.
-- Needed by Before; crates acceptor, leader and resource_manager.
use Rattle.std.proofs.Common.{◌≡◌, ◌∙◌, Bool, true, false, ◌||◌, cond, List, [], ◌∷◌, ◌++◌, refl, sym, ap, subst}
use Rattle.std.specs.Prelude.{filter, fold}
use Rattle.std.specs.List.{list_any}
use Rattle.std.proofs.lemmas.Bool.{cond_both, cond-true, cond-false}
use Rattle.std.proofs.lemmas.List.Elements.{filter-append}
use Rattle.std.proofs.lemmas.List.{append-nil}
use Rattle.xid.specs.Transactions.{TxParts, tx_eq}
use Rattle.xid.proofs.Deciding.{tx_decides}
use Rattle.transactions.specs.Seen.{seen_with, first_seen}
use Rattle.transactions.proofs.First.{seen_after}

module _ (p : TxParts → Bool) where
  -- one that passes is among those that pass where it is among all
  pub any_passing : (tx : TxParts) → p tx ≡ true → (seen : List TxParts) → list_any (tx_eq tx) (filter p seen) ≡ list_any (tx_eq tx) seen
  any_passing tx passes [] = refl
  any_passing tx passes (x ∷ xs) =
      cond_both (p x) (x ∷ filter p xs) (filter p xs)
      (λ (ys : List TxParts). list_any (tx_eq tx) ys ≡ (tx_eq tx x || list_any (tx_eq tx) xs))
      (λ kept. ap (λ (b : Bool). tx_eq tx x || b) (any_passing tx passes xs))
      (λ dropped. any_passing tx passes xs ∙ sym (ap (λ (b : Bool). b || list_any (tx_eq tx) xs) (other (tx_eq tx x) refl dropped)))
    where
      other : (b : Bool) → tx_eq tx x ≡ b → p x ≡ false → tx_eq tx x ≡ false
      other true e dropped = let kept = subst (λ (t : TxParts). p t ≡ true) ((tx_decides tx x).0 e) passes in absurd (cc (kept, dropped))
      other false e dropped = e

  seen_passing : (seen : List TxParts) (tx : TxParts) → p tx ≡ true → seen_with (filter p seen) tx ≡ filter p (seen_with seen tx)
  seen_passing seen tx passes =
      ap (λ (b : Bool). cond b (filter p seen) (filter p seen ++ tx ∷ [])) (any_passing tx passes seen)
      ∙ by_test (list_any (tx_eq tx) seen)
    where
      by_test : (b : Bool) → cond b (filter p seen) (filter p seen ++ tx ∷ []) ≡ filter p (cond b seen (seen ++ tx ∷ []))
      by_test true = refl
      by_test false =
          sym (filter-append p seen (tx ∷ []) ∙ ap (λ (ys : List TxParts). filter p seen ++ ys) (cond-true (p tx) (tx ∷ []) [] passes))

  seen_failing : (seen : List TxParts) (tx : TxParts) → p tx ≡ false → filter p (seen_with seen tx) ≡ filter p seen
  seen_failing seen tx fails = by_test (list_any (tx_eq tx) seen)
    where
      by_test : (b : Bool) → filter p (cond b seen (seen ++ tx ∷ [])) ≡ filter p seen
      by_test true = refl
      by_test false =
          filter-append p seen (tx ∷ []) ∙ ap (λ (ys : List TxParts). filter p seen ++ ys) (cond-false (p tx) (tx ∷ []) [] fails)
          ∙ append-nil (filter p seen)

  module _ {X : Type 0} (about : X → TxParts) where
    from : (seen : List TxParts) (xs : List X)
        → fold (seen_after about) (filter p seen) (filter (λ x. p (about x)) xs) ≡ filter p (fold (seen_after about) seen xs)
    from seen [] = refl
    from seen (x ∷ xs) =
        cond_both (p (about x)) (x ∷ filter (λ y. p (about y)) xs) (filter (λ y. p (about y)) xs)
        (λ (ys : List X). fold (seen_after about) (filter p seen) ys ≡ filter p (fold (seen_after about) (seen_with seen (about x)) xs))
        (λ passes. ap (λ (s : List TxParts). fold (seen_after about) s (filter (λ y. p (about y)) xs)) (seen_passing seen (about x) passes)
        ∙ from (seen_with seen (about x)) xs)
        (λ fails. ap (λ (s : List TxParts). fold (seen_after about) s (filter (λ y. p (about y)) xs))
        (sym (seen_failing seen (about x) fails))
        ∙ from (seen_with seen (about x)) xs)

    -- the transactions of things that pass are those that pass
    pub first_passing : (xs : List X) → first_seen about (filter (λ x. p (about x)) xs) ≡ filter p (first_seen about xs)
    first_passing xs = from [] xs
