-- A transaction's spelling, which spells it again, and how long that is at most: for what stands over spelled bytes.
use Rattle.std.proofs.Common.{◌≡◌, ◌∙◌, ℕ, ◌==◌, suc, ◌+◌, ◌*◌, ◌<◌, ◌≤◌, None, Some, List, [], ◌∷◌, ◌++◌, length, take}
use Rattle.std.proofs.Common.{refl, sym, ap, subst, arith}
use Rattle.std.specs.List.{flat_map, All}
use Rattle.std.proofs.lemmas.Bool.{cond-false, ne_eqb}
use Rattle.std.proofs.lemmas.List.{append-nil, length-append}
use Rattle.std.proofs.lemmas.List.Concat.{flat_map-cons}
use Rattle.byteorder.specs.Numbers.{length-bytes_high_first}
use Rattle.xid.specs.Transactions.{TxParts, BranchParts, IsBranch, IsTx}
use Rattle.wire.specs.declared.grammar.TheConstants.{MAX_TX_BYTES}
use Rattle.wire.specs.Grammar.{number_spelling, rm_spelling, component_spelling, branch_spelling, branches_spelling, tx_spelling}
use Rattle.wire.specs.Spelled.{tx_placed, tx_spelled, IsPlaced, IsSpelled}
use Rattle.wire.specs.Versions.{version_2}
use Rattle.wire.proofs.Fields.{tx_taken}

-- the transaction that its own spelling spells
pub spelled_is : (bytes : List ℕ) (tx : TxParts) → IsTx tx → bytes ≡ tx_spelling version_2 tx → tx_spelled bytes ≡ tx
unfolding tx_spelled
spelled_is bytes tx is e = rw (tx_taken bytes tx [] is (e ∙ sym (append-nil (tx_spelling version_2 tx)))) refl

-- the spelling of a transaction spells one
pub is_spelled : (bytes : List ℕ) (tx : TxParts) → IsTx tx → bytes ≡ tx_spelling version_2 tx → IsSpelled bytes
is_spelled bytes tx is e =
    let back = spelled_is bytes tx is e in
    record { valid = subst IsTx (sym back) is; spelled = e ∙ ap (tx_spelling version_2) (sym back) }

-- it has some bytes
tx_some : (tx : TxParts) → 0 < length (tx_spelling version_2 tx)
tx_some tx =
    omega (
      arith,
      length-append (number_spelling tx.format) (component_spelling tx.gtrid ++ branches_spelling version_2 tx.branches),
      length-bytes_high_first 4 tx.format,
    )

placed_by : (len : ℕ) (bytes : List ℕ) (tx : TxParts) → IsTx tx → 0 < len → take len bytes ≡ tx_spelling version_2 tx
    → tx_placed len bytes ≡ Some tx
placed_by len bytes tx is some e =
    cond-false (len == 0) None (Some (tx_spelled (take len bytes))) (ne_eqb len 0 (λ none. absurd (omega (arith, some, none))))
    ∙ ap Some (spelled_is (take len bytes) tx is e)

-- a transaction that was put at the front, so many bytes of it
module _ (len : ℕ) (bytes spelled : List ℕ) (tx : TxParts) (is : IsTx tx) (value : spelled ≡ tx_spelling version_2 tx)
    (end : len ≡ 0 + length spelled) (shown : take len bytes ≡ spelled) where
  -- it is the one that stands there
  pub placed_is : tx_placed len bytes ≡ Some tx
  placed_is =
      let count : length spelled ≡ length (tx_spelling version_2 tx) = ap length value in
      placed_by len bytes tx is (omega (arith, end, count, tx_some tx)) (shown ∙ value)

  -- so its place is kept as it should be
  pub is_placed : length spelled ≤ MAX_TX_BYTES → IsPlaced len bytes
  is_placed few = record { few = omega (arith, end, few); spelled = λ some. is_spelled (take len bytes) tx is (shown ∙ value) }

branch_few : (b : BranchParts) → IsBranch b → length (branch_spelling version_2 b) ≤ 67
branch_few b is =
    omega (
      arith,
      length-append (rm_spelling version_2 b.rm) (component_spelling b.bqual),
      length-bytes_high_first 2 b.rm,
      is.bqual.few,
    )

branches_few : (bs : List BranchParts) → All IsBranch bs → length (flat_map (branch_spelling version_2) bs) ≤ 67 * length bs
branches_few [] each = omega arith
branches_few (b ∷ bs) each =
    let spell = branch_spelling version_2 in
    let e : length (flat_map spell (b ∷ bs)) ≡ length (spell b ++ flat_map spell bs) = ap length (flat_map-cons spell b bs) in
    let first = branch_few b (each 0 b (omega arith)) in
    let others = branches_few bs (λ k d lt. each (suc k) d (omega arith)) in
    omega (arith, e, length-append (spell b) (flat_map spell bs), first, others)

-- how many bytes the spelling of a transaction has at most
pub tx_few : (tx : TxParts) → IsTx tx → length (tx_spelling version_2 tx) ≤ 1142
tx_few tx is =
    let all = branches_few tx.branches is.branches.each in
    omega (
      arith,
      length-append (number_spelling tx.format) (component_spelling tx.gtrid ++ branches_spelling version_2 tx.branches),
      length-bytes_high_first 4 tx.format,
      length-append (component_spelling tx.gtrid) (branches_spelling version_2 tx.branches),
      is.gtrid.few,
      is.branches.few,
      all,
    )

-- bytes that spell a transaction are as few
pub bytes_few : (bytes : List ℕ) → IsSpelled bytes → length bytes ≤ 1142
bytes_few bytes is =
    let len : length bytes ≡ length (tx_spelling version_2 (tx_spelled bytes)) = ap length is.spelled in
    omega (arith, len, tx_few (tx_spelled bytes) is.valid)
