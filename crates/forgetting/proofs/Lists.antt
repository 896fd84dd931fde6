-- Filters, and one more at the end.
use Rattle.std.proofs.Common.{◌≡◌, ◌∙◌, inl, inr, Bool, true, false, if◌then◌else◌, List, [], ◌∷◌, ◌++◌, Option, Some, refl, ap}
use Rattle.std.specs.Prelude.{filter, slice_get, length}
use Rattle.std.specs.List.{last_or}
use Rattle.std.proofs.lemmas.Bool.{both_ways}
use Rattle.ballot.specs.Greatest.{IsIn}

module _ {X : Type 0} where
  -- a filter that all pass
  pub filter_all : (p : X → Bool) (xs : List X) → ((x : X) → p x ≡ true) → filter p xs ≡ xs
  filter_all p [] each = refl
  filter_all p (x ∷ xs) each = λ k. if each x k then x ∷ filter_all p xs each k else filter_all p xs each k

  -- two filters that say the same of what is there
  pub filter_among : (p q : X → Bool) (xs : List X) → ((x : X) → IsIn xs x → p x ≡ q x) → filter p xs ≡ filter q xs
  filter_among p q [] same = refl
  filter_among p q (x ∷ xs) same = λ k.
      if same x (inl refl) k then x ∷ filter_among p q xs (λ y h. same y (inr h)) k else filter_among p q xs (λ y h. same y (inr h)) k

  -- of what passes a stronger test nothing is lost by a weaker one before
  pub filter_under : (p q : X → Bool) (xs : List X) → ((x : X) → IsIn xs x → q x ≡ true → p x ≡ true)
      → filter q xs ≡ filter q (filter p xs)
  filter_under p q [] under = refl
  filter_under p q (x ∷ xs) under = by (p x) (q x) refl refl (under x (inl refl)) (filter_under p q xs (λ y h. under y (inr h)))
    where
      by : (t u : Bool) → p x ≡ t → q x ≡ u → (q x ≡ true → p x ≡ true) → filter q xs ≡ filter q (filter p xs)
          → filter q (x ∷ xs) ≡ filter q (if t then x ∷ filter p xs else filter p xs)
      by true u e f weaker rest = ap (λ (ys : List X). if q x then x ∷ ys else ys) rest
      by false true e f weaker rest = absurd (both_ways (p x) e (weaker f))
      by false false e f weaker rest = ap (λ (t : Bool). if t then x ∷ filter q xs else filter q xs) f ∙ rest

  -- the last of some
  pub last_is : (before : List X) (x : X) → slice_get (before ++ x ∷ []) (length before) ≡ Some x
  last_is [] x = refl
  last_is (first ∷ before) x = last_is before x

  pub last_after : (o : Option X) (xs : List X) (x : X) → last_or o (xs ++ x ∷ []) ≡ Some x
  last_after o [] x = refl
  last_after o (y ∷ xs) x = last_after (Some y) xs x
