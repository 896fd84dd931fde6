-- The greatest of numbers that things give: none is above it, and it is one of them or 0.
use Rattle.std.proofs.Common.{◌≡◌, ◌⊎◌, inl, inr, ℕ, ◌≤◌, List, [], ◌∷◌, Option, Some, None, unwrap_or, refl, sym, ap, ◌∙◌, subst, arith}
use Rattle.std.specs.Prelude.{filter_map}
use Rattle.std.specs.List.{cons_option}
use Rattle.std.proofs.Math.Nat.{max-eq_left, max-eq_right}
use Rattle.std.proofs.lemmas.Bool.{cases_lt}
use Rattle.ballot.specs.Greatest.{IsIn, greatest}

at_most_first : (o : Option ℕ) (ns : List ℕ) (b : ℕ) → o ≡ Some b → b ≤ greatest (cons_option o ns)
at_most_first None ns b e = absurd (cc (e))
at_most_first (Some n) ns b e = let same : n ≡ b = ap (λ (o : Option ℕ). unwrap_or o n) e in omega (arith, same)

at_most_more : (o : Option ℕ) (ns : List ℕ) (b : ℕ) → b ≤ greatest ns → b ≤ greatest (cons_option o ns)
at_most_more None ns b h = h
at_most_more (Some n) ns b h = omega (arith, h)

-- a number that one of the things gives is at most the greatest
pub at_most_greatest : {X : Type 0} (h : X → Option ℕ) (xs : List X) (x : X) (b : ℕ) → IsIn xs x → h x ≡ Some b
    → b ≤ greatest (filter_map h xs)
at_most_greatest h [] x b is e = absurd is
at_most_greatest h (y ∷ ys) x b (inl same) e = at_most_first (h y) (filter_map h ys) b (ap h same ∙ e)
at_most_greatest h (y ∷ ys) x b (inr is) e = at_most_more (h y) (filter_map h ys) b (at_most_greatest h ys x b is e)

-- the greatest is 0, or one of the numbers
pub greatest_in : (ns : List ℕ) → (greatest ns ≡ 0) ⊎ IsIn ns (greatest ns)
greatest_in [] = inl refl
greatest_in (n ∷ ns) = elim (cases_lt n (greatest ns)) [
  | inl above ↦ elim (greatest_in ns) [
    | inl none ↦ absurd (omega (arith, above, none))
    | inr h ↦ inr (inr (subst (λ (m : ℕ). IsIn ns m) (sym (max-eq_right (omega (arith, above)))) h))
  ]
  | inr below ↦ inr (inl (sym (max-eq_left below)))
]
