-- A change of each of a list, one place after the other.
-- Needed by `promise_all`.
use Rattle.std.proofs.Common.{◌≡◌, ◌∙◌, ℕ, zero, suc, ◌+◌, ◌<◌, List, [], ◌∷◌, ◌++◌, length, get_or, take, drop, map, set, refl, ap, arith}

module _ {X : Type 0} (f : X → X) where
  -- those before a place are changed
  abbrev pub changed : List X → ℕ → List X
  changed xs i = map f (take i xs) ++ drop i xs

  pub here_before : (xs : List X) (i : ℕ) (d : X) → i < length xs → get_or (changed xs i) i d ≡ get_or xs i d
  here_before [] i d lt = absurd (omega arith)
  here_before (x ∷ xs) zero d lt = refl
  here_before (x ∷ xs) (suc i) d lt = here_before xs i d (omega arith)

  changed_suc : (xs : List X) (i : ℕ) (d : X) → i < length xs → set (changed xs i) i (f (get_or xs i d)) ≡ changed xs (suc i)
  changed_suc [] i d lt = absurd (omega arith)
  changed_suc (x ∷ xs) zero d lt = refl
  changed_suc (x ∷ xs) (suc i) d lt = ap (λ ys. f x ∷ ys) (changed_suc xs i d (omega arith))

  -- one place more of a list is changed
  pub changed_next : (xs : List X) (i : ℕ) (d : X) → i < length xs → set (changed xs i) i (f (get_or (changed xs i) i d))
      ≡ changed xs (i + 1)
  changed_next xs i d lt =
      let next : suc i ≡ i + 1 = omega arith in
      ap (λ y. set (changed xs i) i (f y)) (here_before xs i d lt) ∙ changed_suc xs i d lt ∙ ap (changed xs) next
