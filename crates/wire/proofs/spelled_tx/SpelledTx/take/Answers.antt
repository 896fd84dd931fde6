use Rattle.std.proofs.Common.{◌≡◌, ◌∙◌, ◌+◌, ℕ, length, List, Option, Some, ap, sym, arith}
use Rattle.std.proofs.Math.Facts.{Fits-lt-pow}
use Rattle.std.proofs.lemmas.List.{length-append}
use Rattle.xid.specs.Names.{IsBytes}
use Rattle.xid.specs.Transactions.{TxParts}
use Rattle.wire.specs.Grammar.{tx_spelling}
use Rattle.wire.specs.Versions.{version_2}
use Rattle.wire.proofs.Ends.{ends, none, cut}
use Rattle.wire.proofs.SpelledAgain.{is_spelled, spelled_is}
use Rattle.wire.proofs.spelled_tx.SpelledTx.take.Goals as goal

pub returns-in_err-rest : goal.returns-in_err-rest
returns-in_err-rest c =
    let is : IsBytes c.args.bytes.now = λ i. Fits-lt-pow (c.type_inv.bytes i) in
    rw c.from_residual.ensures (sym (none c.args.bytes.now is (sym c.in_err-rest.ensures)))

pub overflow_sub-len : goal.overflow_sub-len
overflow_sub-len c =
    let is : IsBytes c.args.bytes.now = λ i. Fits-lt-pow (c.type_inv.bytes i) in
    let e = ends c.args.bytes.now c.in_ok-rest.rest.now is (sym c.in_ok-rest.ensures) in
    let len : length c.args.bytes.now ≡ length (tx_spelling version_2 e.tx) + length c.in_ok-rest.rest.now =
    ap length e.front ∙ length-append (tx_spelling version_2 e.tx) c.in_ok-rest.rest.now in
    omega (arith, len)

pub invariant_of-tx : goal.invariant_of-tx
invariant_of-tx c =
    let is : IsBytes c.args.bytes.now = λ i. Fits-lt-pow (c.type_inv.bytes i) in
    let e = ends c.args.bytes.now c.in_ok-rest.rest.now is (sym c.in_ok-rest.ensures) in
    is_spelled _ e.tx e.is (cut c.args.bytes.now c.in_ok-rest.rest.now e)

abbrev with_rest : TxParts → List ℕ → Option (TxParts × List ℕ)
with_rest tx rest = Some (tx, rest)

pub returns : goal.returns
returns c =
    let is : IsBytes c.args.bytes.now = λ i. Fits-lt-pow (c.type_inv.bytes i) in
    let e = ends c.args.bytes.now c.in_ok-rest.rest.now is (sym c.in_ok-rest.ensures) in
    ap (λ (tx : TxParts). with_rest tx c.in_ok-rest.rest.now) (spelled_is _ e.tx e.is (cut c.args.bytes.now c.in_ok-rest.rest.now e))
    ∙ sym e.read
