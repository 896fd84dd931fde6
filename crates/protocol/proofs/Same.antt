-- The test of instances is equality.
-- Needed by crates safety, progress, commits and acceptor.
use Rattle.std.proofs.Common.{◌≡◌, ℕ, true, ◌==◌, eq-eqb, refl}
use Rattle.std.specs.Cmp.{first_so, second_so}
use Rattle.std.proofs.lemmas.Bool.{eqb-true, and_from}
use Rattle.xid.specs.Transactions.{TxParts, tx_eq}
use Rattle.xid.proofs.Deciding.{tx_self, tx_decides}
use Rattle.protocol.specs.Facts.{instance_eq}

-- an instance passes the test with itself
pub instance_eq-same : (tx : TxParts) (i : ℕ) → instance_eq tx i tx i ≡ true
instance_eq-same tx i = and_from (i == i) (tx_eq tx tx) (eq-eqb i i refl) (tx_self tx)

-- and what passes is the same
pub instance_eq-is : (tx other : TxParts) (i j : ℕ) → instance_eq tx i other j ≡ true → (tx ≡ other) × (i ≡ j)
instance_eq-is tx other i j e = (
  (tx_decides tx other).0 (second_so (i == j) (tx_eq tx other) e),
  eqb-true i j (first_so (i == j)
      (tx_eq tx other) e),
)
