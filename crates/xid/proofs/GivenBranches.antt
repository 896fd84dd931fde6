-- Lists of branches that are given as numbers and bytes.
use Rattle.std.proofs.Common.{◌≡◌, ℕ, ◌+◌, ◌-◌, ◌<◌, ◌≤◌, List, length, get_or, map, ap, subst, ◌∙◌, arith}
use Rattle.std.specs.List.Sorted.{IsStrictlyIncreasing}
use Rattle.std.specs.Borrow.{Bor}
use Rattle.std.proofs.lemmas.List.{get_or-map, length-map}
use Rattle.xid.specs.Transactions.{BranchParts, AreBranches, branch_of, rm_numbers}
use Rattle.xid.specs.BranchArray.{blank}

-- branches have no bqual of more than 64 bytes
pub too_long : (parts : List (ℕ × Bor (List ℕ))) (bs : List BranchParts) (i : ℕ) (d : ℕ × Bor (List ℕ)) → i < length parts
    → 64 < length (get_or parts i d).1.now
    → AreBranches bs → bs ≡ map branch_of parts → ⊥
too_long parts bs i d lt long is e =
    let same : get_or bs i (branch_of d) ≡ branch_of (get_or parts i d) = ap (λ (xs : List BranchParts). get_or xs i (branch_of d)) e
    ∙ get_or-map branch_of parts i d (branch_of d) lt in
    let len : length bs ≡ length parts = ap length e ∙ simp length-map in
    let few : length (get_or bs i (branch_of d)).bqual ≤ 64 = (is.each i (branch_of d) (omega arith)).bqual.few in
    let lens : length (get_or bs i (branch_of d)).bqual ≡ length (get_or parts i d).1.now = ap (λ (b : BranchParts). length b.bqual) same in
    omega arith

-- the resource manager at a place
rm_at : (bs : List BranchParts) (i : ℕ) (d : BranchParts) → i < length bs → get_or (rm_numbers bs) i 0 ≡ (get_or bs i d).rm
rm_at bs i d lt = get_or-map (λ b. b.rm) bs i d 0 lt

-- resource managers ascend where each is below the next
pub ascend : (bs : List BranchParts) → ((k : ℕ) (d : BranchParts) → k + 1 < length bs → (get_or bs k d).rm < (get_or bs (k + 1) d).rm)
    → IsStrictlyIncreasing (rm_numbers bs)
ascend bs each k lt =
    let d : BranchParts = blank in
    let len : length (rm_numbers bs) ≡ length bs = simp length-map in
    let here = rm_at bs k d (omega arith) in
    let next = rm_at bs (k + 1) d (omega arith) in
    omega (arith, each k d (omega arith), here, next)

-- and one is not above the one before it
pub ascends_at : (bs : List BranchParts) (i : ℕ) (d e : BranchParts) → AreBranches bs → 0 < i → i < length bs
    → (get_or bs (i - 1) d).rm < (get_or bs i e).rm
ascends_at bs i d e is some lt =
    let len : length (rm_numbers bs) ≡ length bs = simp length-map in
    let back : i - 1 + 1 ≡ i = omega arith in
    let before = rm_at bs (i - 1) d (omega arith) in
    let here = rm_at bs i e lt in
    let up = is.ascending (i - 1) (omega arith) in
    let up' : get_or (rm_numbers bs) (i - 1) 0 < get_or (rm_numbers bs) i 0 =
    subst (λ (j : ℕ). get_or (rm_numbers bs) (i - 1) 0 < get_or (rm_numbers bs) j 0) back up in
    omega arith
