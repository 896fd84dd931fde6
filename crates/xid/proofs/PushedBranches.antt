-- A branch stored at the count of an array of branches.
use Rattle.std.proofs.Common.{ℕ, ◌+◌, ◌-◌, ◌<◌, List, drop, slice_set, ap, ◌∙◌, arith, sym}
use Rattle.std.proofs.lemmas.List.{drop-drop, drop-set-lt, drop-replicate, length-set}
use Rattle.xid.specs.Limits.{most_branches}
use Rattle.xid.specs.Transactions.{BranchParts}
use Rattle.xid.specs.BranchArray.{IsBranchArray, blank, blanks}

pub pushed : (count : ℕ) (array : List BranchParts) (b : BranchParts) → IsBranchArray count array → count < most_branches
    → IsBranchArray (count + 1) (slice_set array count b)
pushed count array b ok lt = record {
  few = omega (arith, lt);
  whole = length-set array count b ∙ ok.whole;
  blank_after =
      drop-set-lt (count + 1) array count b (omega arith) ∙ sym (drop-drop 1 count array) ∙ ap (drop 1) ok.blank_after
      ∙ drop-replicate 1 (most_branches - count) blank ∙ ap blanks (omega arith);
}
