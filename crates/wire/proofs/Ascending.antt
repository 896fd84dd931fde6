-- Numbers that ascend strictly.
-- Needed by `are_items`; Bundles, CountedItems, DecodingLemmas, Ends, Instances and Walks; crate audit.
use Rattle.std.proofs.Common.{◌≡◌, ℕ, zero, suc, ◌+◌, ◌-◌, ◌<◌, ◌≤◌, List, [], ◌∷◌, length, get_or, map, slice_index, subst, arith}
use Rattle.std.specs.List.Sorted.{IsStrictlyIncreasing}
use Rattle.std.proofs.lemmas.List.{get_or-map, length-map}

next : (k : ℕ) → suc k + 1 ≡ suc (k + 1)
next k = omega arith

-- without the first
pub later : (n m : ℕ) (rest : List ℕ) → IsStrictlyIncreasing (n ∷ m ∷ rest) → IsStrictlyIncreasing (m ∷ rest)
later n m rest up k within = subst (λ (i : ℕ). slice_index (m ∷ rest) k < slice_index (n ∷ m ∷ rest) i) (next k) (up (suc k) (omega arith))

-- with one below the first
pub before : (n m : ℕ) (rest : List ℕ) → n < m → IsStrictlyIncreasing (m ∷ rest) → IsStrictlyIncreasing (n ∷ m ∷ rest)
before n m rest lt up zero within = lt
before n m rest lt up (suc k) within = rw (next k) (up k (omega arith))

-- the rest of numbers that ascend does too
pub tail_up : (n : ℕ) (ns : List ℕ) → IsStrictlyIncreasing (n ∷ ns) → IsStrictlyIncreasing ns
tail_up n [] up = λ k lt. absurd (omega arith)
tail_up n (m ∷ ms) up = later n m ms up

-- the first of numbers, if there is one, is not below the least
abbrev pub IsFrom : ℕ → List ℕ → Type 0
IsFrom least [] = Unit {0}
IsFrom least (n ∷ ns) = least ≤ n

-- all numbers are 0 or more
pub from_zero : (ns : List ℕ) → IsFrom 0 ns
from_zero [] = tt
from_zero (n ∷ ns) = omega arith

-- numbers that ascend from the next one ascend behind it
pub ascend_with : (n : ℕ) (ns : List ℕ) → IsFrom (n + 1) ns → IsStrictlyIncreasing ns → IsStrictlyIncreasing (n ∷ ns)
ascend_with n [] from up = λ k lt. absurd (omega arith)
ascend_with n (m ∷ ms) from up = before n m ms (omega (arith, from)) up

-- what stands behind a number ascends from the next one
pub from_next : (n : ℕ) (ns : List ℕ) → IsStrictlyIncreasing (n ∷ ns) → IsFrom (n + 1) ns
from_next n [] up = tt
from_next n (m ∷ ms) up = let lt : n < m = up 0 (omega arith) in omega arith

module _ {X : Type 0} (f : X → ℕ) where
  -- numbers of a list ascend where each is below the next
  pub ascend : (xs : List X) → ((k : ℕ) (d : X) → k + 1 < length xs → f (get_or xs k d) < f (get_or xs (k + 1) d))
      → X → IsStrictlyIncreasing (map f xs)
  ascend xs each d k lt =
      let len : length (map f xs) ≡ length xs = simp length-map in
      let here = get_or-map f xs k d 0 (omega arith) in
      let after = get_or-map f xs (k + 1) d 0 (omega arith) in
      omega (arith, each k d (omega arith), here, after)

  -- and one is above the one before it
  pub ascends_at : (xs : List X) (i : ℕ) (d e : X) → IsStrictlyIncreasing (map f xs) → 0 < i → i < length xs
      → f (get_or xs (i - 1) d) < f (get_or xs i e)
  ascends_at xs i d e up some lt =
      let len : length (map f xs) ≡ length xs = simp length-map in
      let back : i - 1 + 1 ≡ i = omega arith in
      let was = get_or-map f xs (i - 1) d 0 (omega arith) in
      let here = get_or-map f xs i e 0 lt in
      let up' = subst (λ (j : ℕ). get_or (map f xs) (i - 1) 0 < get_or (map f xs) j 0) back (up (i - 1) (omega arith)) in
      omega arith
