-- The greatest of the numbers that elements give is 0, or some element gives it.
-- Needed by Acceptor.Slots.
use Rattle.std.proofs.Common.{◌≡◌, ◌⊎◌, inl, inr, ℕ, List, Option}
use Rattle.std.specs.Prelude.{filter_map}
use Rattle.ballot.specs.Greatest.{greatest}
use Rattle.ballot.proofs.Greatest.{greatest_in}
use Rattle.protocol.proofs.Lists.{IsFilterMapSource, filter_map_given}

pub greatest_given : {X : Type 0} (h : X → Option ℕ) (xs : List X) → (greatest (filter_map h xs) ≡ 0)
    ⊎ IsFilterMapSource h xs (greatest (filter_map h xs))
greatest_given h xs = elim (greatest_in (filter_map h xs)) [
  | inl none ↦ inl none
  | inr is ↦ inr (filter_map_given h xs (greatest (filter_map h xs)) is)
]
