-- Taking values one after the other, as a loop does.
-- Needed by `more_items` and `take_branches`; crate stable_record.
use Rattle.std.proofs.Common.{◌≡◌, ℕ, suc, ◌-◌, ◌+◌, ◌≤◌, ◌<◌, List, [], ◌∷◌, ◌++◌, Option, Some, None, refl, sym, ap, ◌∙◌, append_assoc}
use Rattle.std.proofs.Common.{arith}
use Rattle.std.proofs.lemmas.List.{append-nil}
use Rattle.wire.specs.Reading.{◌>>=◌, list_at}

-- what was taken before, and what is still taken
abbrev pub with_front : {X : Type 0} → List X → Option (List X × List ℕ) → Option (List X × List ℕ)
with_front front read = read >>= λ x. Some (front ++ x.0, x.1)

regroup : {X : Type 0} (front : List X) (x : X) (read : Option (List X × List ℕ))
    → with_front front (read >>= λ y. Some (x ∷ y.0, y.1)) ≡ with_front (front ++ x ∷ []) read
regroup {X} front x (Some y) = ap (λ (xs : List X). Some (xs, y.1)) (simp append_assoc)
regroup front x None = refl

module _ {X : Type 0} (one : List ℕ → Option (X × List ℕ)) (front : List X) (count i : ℕ) (bytes : List ℕ)
    (total : Option (List X × List ℕ)) where
  -- one value more
  pub goes_on : (x : X) (after : List ℕ) → i < count → one bytes ≡ Some (x, after)
      → with_front front (list_at one (count - i) bytes) ≡ total
      → with_front (front ++ x ∷ []) (list_at one (count - (i + 1)) after) ≡ total
  unfolding list_at
  goes_on x after lt h so_far =
      let k : count - i ≡ suc (count - (i + 1)) = omega arith in
      let left : Option (List X × List ℕ) = list_at one (count - (i + 1)) after in
      let taken : with_front front (list_at one (count - i) bytes) ≡ with_front (front ++ x ∷ []) left =
      rw (k, h) (regroup front x left) in
      sym taken ∙ so_far

  -- where there is none, the whole has none
  pub ends : i < count → one bytes ≡ None → with_front front (list_at one (count - i) bytes) ≡ total → total ≡ None
  unfolding list_at
  ends lt h so_far =
      let k : count - i ≡ suc (count - (i + 1)) = omega arith in
      let taken : with_front front (list_at one (count - i) bytes) ≡ None = rw (k, h) refl in
      sym so_far ∙ taken

  -- where all were taken, they are the whole's values
  pub is_done : count ≤ i → with_front front (list_at one (count - i) bytes) ≡ total → total ≡ Some (front, bytes)
  unfolding list_at
  is_done le so_far =
      let k : count - i ≡ 0 = omega arith in
      let taken : with_front front (list_at one (count - i) bytes) ≡ Some (front, bytes) =
      rw k (ap (λ (xs : List X). Some (xs, bytes)) (append-nil front)) in
      sym so_far ∙ taken
