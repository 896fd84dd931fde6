-- How many elements at the front of a list pass a test, as the list changes.
-- Needed by `Network::mark` and `marked_front`; Places.
use Rattle.std.proofs.Common.{◌≡◌, ◌≢◌, ℕ, zero, suc, ◌+◌, ◌<◌, ◌≤◌, Bool, true, false, cond, List, [], ◌∷◌, ◌++◌, length, get_or, set, map}
use Rattle.std.proofs.Common.{refl, ap, arith}
use Rattle.std.specs.List.{prefix_len}
use Rattle.std.proofs.lemmas.List.Sums.{prefix_len_passes, prefix_len-le-length}

-- ---- an element in front, which passes or doesn't

below : (b : Bool) (m n : ℕ) → m ≤ n → cond b (1 + m) 0 ≤ cond b (1 + n) 0
below true m n le = omega arith
below false m n le = omega arith

first_passes : (b : Bool) (n : ℕ) → cond b (1 + n) 0 ≤ 1 + n
first_passes true n = omega arith
first_passes false n = omega arith

passed : (b : Bool) (n : ℕ) → 0 ≢ cond b (1 + n) 0 → 1 + n ≡ cond b (1 + n) 0
passed true n more = refl
passed false n more = absurd (more refl)

same_after : (b : Bool) (i m n : ℕ) → suc i ≢ cond b (1 + n) 0 → (i ≢ n → m ≡ n) → cond b (1 + m) 0 ≡ cond b (1 + n) 0
same_after true i m n other same = ap (λ k. 1 + k) (same (λ e. other (omega arith)))
same_after false i m n other same = refl

one_less : (b : Bool) (i n : ℕ) → suc i ≤ cond b (1 + n) 0 → (i ≤ n → i + 1 ≤ n) → suc i + 1 ≤ cond b (1 + n) 0
one_less true i n le more = let k : i + 1 ≤ n = more (omega arith) in omega arith
one_less false i n le more = absurd (omega arith)

module _ {X : Type 0} (p : X → Bool) where
  -- one more that doesn't pass
  pub front_push : (xs : List X) (y : X) → p y ≡ false → prefix_len p (xs ++ y ∷ []) ≡ prefix_len p xs
  front_push [] y fails = ap (λ b. cond b 1 0) fails
  front_push (x ∷ xs) y fails = ap (λ n. cond (p x) (1 + n) 0) (front_push xs y fails)

  -- one that passes now takes none from the front
  pub front_set : (xs : List X) (i : ℕ) (y : X) → p y ≡ true → prefix_len p xs ≤ prefix_len p (set xs i y)
  front_set [] i y passes = omega arith
  front_set (x ∷ xs) zero y passes = rw passes (first_passes (p x) (prefix_len p xs))
  front_set (x ∷ xs) (suc i) y passes = below (p x) _ _ (front_set xs i y passes)

  -- and leaves the front as it is where it isn't the first that didn't
  pub front_set_other : (xs : List X) (i : ℕ) (y : X) → p y ≡ true → i ≢ prefix_len p xs → prefix_len p (set xs i y) ≡ prefix_len p xs
  front_set_other [] i y passes other = refl
  front_set_other (x ∷ xs) zero y passes other = rw passes (passed (p x) (prefix_len p xs) other)
  front_set_other (x ∷ xs) (suc i) y passes other =
      same_after (p x) i _ _ other (front_set_other xs i y passes)

  -- the front goes on where the next passes
  pub front_more : (xs : List X) (n : ℕ) (d : X) → n < length xs → p (get_or xs n d) ≡ true → n ≤ prefix_len p xs → n + 1 ≤ prefix_len p xs
  front_more [] n d lt passes le = absurd (omega arith)
  front_more (x ∷ xs) zero d lt passes le = rw passes (omega arith)
  front_more (x ∷ xs) (suc n) d lt passes le = one_less (p x) n _ le (front_more xs n d (omega arith) passes)

  -- and ends where it doesn't
  pub front_stops : (xs : List X) (n : ℕ) (d : X) → p (get_or xs n d) ≡ false → n ≤ prefix_len p xs → n ≡ prefix_len p xs
  front_stops xs n d fails le = grind (arith, prefix_len_passes p xs n d)

  -- or where there is no next
  pub front_ends : (xs : List X) (n : ℕ) → length xs ≤ n → n ≤ prefix_len p xs → n ≡ prefix_len p xs
  front_ends xs n end le = omega (arith, prefix_len-le-length p xs)

-- the front of a list whose elements are made of others
pub front_map : {X Y : Type 0} (p : Y → Bool) (f : X → Y) (xs : List X) → prefix_len p (map f xs) ≡ prefix_len (λ x. p (f x)) xs
front_map p f [] = refl
front_map p f (x ∷ xs) = ap (λ n. cond (p (f x)) (1 + n) 0) (front_map p f xs)
