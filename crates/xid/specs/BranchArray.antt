-- A list of branches in an array: the branches, then blank ones.
use Rattle.std.specs.Prelude.{◌≡◌, ℕ, ◌-◌, ◌≤◌, List, [], ◌++◌, length, take, drop, replicate}
use Rattle.std.proofs.Common.{ap, ◌∙◌, arith, sym}
use Rattle.std.proofs.lemmas.List.{take-append-drop, length-take}
use Rattle.xid.specs.Limits.{most_branches}
use Rattle.xid.specs.Transactions.{BranchParts}

-- what stands where no branch is
abbrev pub blank : BranchParts
blank = record { rm = 0; bqual = [] }

-- so many blank branches
abbrev pub blanks : ℕ → List BranchParts
blanks n = replicate {A = BranchParts} n blank

-- the array that a list is kept in
abbrev pub array_of : List BranchParts → List BranchParts
array_of bs = bs ++ blanks (most_branches - length bs)

-- an array of branches has its length, and is blank past the count
pub record IsBranchArray (count : ℕ) (array : List BranchParts) : Type 0 where
  pub few : count ≤ most_branches
  pub whole : length array ≡ most_branches
  pub blank_after : drop count array ≡ blanks (most_branches - count)

-- the list that is seen has as many branches as the array counts
pub count-shown : (count : ℕ) (array : List BranchParts) → IsBranchArray count array → length (take count array) ≡ count
count-shown count array ok = omega (arith, length-take count array, ok.few, ok.whole)

-- the list that is seen gives the array back
pub array-shown : (count : ℕ) (array : List BranchParts) → IsBranchArray count array → array_of (take count array) ≡ array
array-shown count array ok =
    ap (λ (n : ℕ). take count array ++ blanks (most_branches - n)) (count-shown count array ok)
    ∙ ap (λ (rest : List BranchParts). take count array ++ rest) (sym ok.blank_after)
    ∙ take-append-drop count array
