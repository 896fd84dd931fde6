-- What a leader hears: a bundle has an item, and a message of one instance is a bundle of one.
-- Needed by `Leader::on_message`.
use Rattle.std.proofs.Common.{◌<◌, ◌+◌, ℕ, List, [], ◌∷◌, length, Option, arith}
use Rattle.std.proofs.lemmas.List.{length-map}
use Rattle.xid.specs.Transactions.{TxParts}
use Rattle.xid.specs.declared.transaction.Vote.{Vote}
use Rattle.wire.specs.declared.items.InstanceReport.{InstanceReport}
use Rattle.wire.specs.declared.items.InstanceAccept.{InstanceAccept}
use Rattle.wire.specs.declared.message.Kind.TheVariants.{P1b, B1b, B2b}
use Rattle.wire.specs.Messages.{IsMessage}

-- a bundle has an item
pub some_reports : (tx : TxParts) (b a : ℕ) (reports : List InstanceReport) → IsMessage (B1b tx b a reports) → 0 < length reports
some_reports tx b a reports is = omega (arith, is.0.some, length-map reports (λ item. item.instance))

-- a bundle of phase 2b has an item
pub some_accepts : (tx : TxParts) (a : ℕ) (accepts : List InstanceAccept) → IsMessage (B2b tx a accepts) → 0 < length accepts
some_accepts tx a accepts is = omega (arith, is.0.some, length-map accepts (λ item. item.instance))

-- a report alone is a bundle of one
pub one_report : (tx : TxParts) (i b : ℕ) (report : Option (ℕ × Vote)) (a : ℕ) → IsMessage (P1b tx i b report a)
    → IsMessage (B1b tx b a (record { instance = i; report = report } ∷ []))
one_report tx i b report a is = (
  record {
    valid = is.0.valid;
    some = omega arith;
    named = (is.0.named, tt);
    ascending = λ k within. let none : k + 1 < 1 = within in absurd (omega (arith, none));
  },
  is.1,
  is.3,
  (is.2, tt),
)
