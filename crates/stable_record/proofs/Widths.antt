-- Numbers of instances fit their width in a record.
-- Needed by crate safety.
use Rattle.std.proofs.Common.{ℕ, arith}
use Rattle.xid.specs.Transactions.{TxParts}
use Rattle.wire.specs.Messages.{IsInstance}
use Rattle.wire.proofs.Instances.{instance_below}
use Rattle.stable_record.specs.Facts.{FitsWidth}

-- an instance of a transaction is a resource manager's number
pub instance_fits : {tx : TxParts} {i : ℕ} → IsInstance tx i → FitsWidth i
instance_fits is = let below = instance_below is in omega (arith, below)
