-- The instances of a bundle's items, which a loop reads.
-- Needed by `are_items`.
use Rattle.std.proofs.Common.{◌≡◌, ℕ, zero, suc, ◌+◌, ◌<◌, ◌≤◌, List, [], ◌∷◌, length, get_or, map, IsTrue, true, arith}
use Rattle.std.specs.List.{All, AllByRecursion}
use Rattle.std.specs.List.Sorted.{IsStrictlyIncreasing}
use Rattle.xid.specs.Transactions.{TxParts, IsTx, is_participant}
use Rattle.wire.specs.Messages.{AreInstances}
use Rattle.std.proofs.lemmas.List.{length-map}
use Rattle.wire.proofs.Ascending.{ascend}

module _ {X : Type 0} (f : X → ℕ) where
  each_of : (P : ℕ → Type 0) (xs : List X) → All (λ x. P (f x)) xs → AllByRecursion P (map f xs)
  each_of P [] each = tt
  each_of P (x ∷ xs) each = (each 0 x (omega arith), each_of P xs (λ k d lt. each (suc k) d (omega arith)))

  at : (P : ℕ → Type 0) (xs : List X) → AllByRecursion P (map f xs) → All (λ x. P (f x)) xs
  at P [] each k d lt = absurd (omega arith)
  at P (x ∷ xs) each zero d lt = each.0
  at P (x ∷ xs) each (suc k) d lt = at P xs each.1 k d (omega arith)

  up : (xs : List X) → ((k : ℕ) (d : X) → k + 1 < length xs → f (get_or xs k d) < f (get_or xs (k + 1) d)) → IsStrictlyIncreasing (map f xs)
  up [] each = λ k lt. absurd (omega arith)
  up (x ∷ xs) each = ascend f (x ∷ xs) each x

  -- the instance of each item is a participant of the transaction
  pub named_at : {tx : TxParts} (xs : List X) → AreInstances tx (map f xs) → (i : ℕ) (d : X) → i < length xs
      → is_participant tx (f (get_or xs i d)) ≡ true
  named_at {tx} xs are i d lt = at (λ n. IsTrue (is_participant tx n)) xs are.named i d lt

  -- items that were read one after the other, each a participant's and above the one before, are instances
  pub instances_are : {tx : TxParts} (xs : List X) → IsTx tx → 1 ≤ length xs
      → ((k : ℕ) (d : X) → k < length xs → IsTrue (is_participant tx (f (get_or xs k d))))
      → ((k : ℕ) (d : X) → k + 1 < length xs → f (get_or xs k d) < f (get_or xs (k + 1) d)) → AreInstances tx (map f xs)
  instances_are {tx} xs valid some named ascending = record {
    valid = valid;
    some = let len : length (map f xs) ≡ length xs = simp length-map in omega (arith, some);
    named = each_of (λ n. IsTrue (is_participant tx n)) xs named;
    ascending = up xs ascending;
  }
