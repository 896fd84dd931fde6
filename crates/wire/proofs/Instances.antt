-- The number of an instance is a resource manager's, and a bundle has no more items than there may be branches.
-- Needed by `take_passed`; Fields; crates stable_record, leader, cluster and net_script.
use Rattle.std.proofs.Common.{◌≡◌, ℕ, suc, ◌<◌, ◌≤◌, ◌||◌, Bool, true, false, eqb, List, [], ◌∷◌, length, refl, sym, subst, arith, eqb-true}
use Rattle.std.specs.List.{All, AllByRecursion, list_any}
use Rattle.std.specs.List.Sorted.{IsStrictlyIncreasing}
use Rattle.xid.specs.Limits.{most_managers, most_branches}
use Rattle.xid.specs.Transactions.{TxParts, BranchParts, IsBranch, is_at, rm_numbers}
use Rattle.wire.specs.Messages.{IsInstance, AreInstances}
use Rattle.wire.proofs.Ascending.{later, tail_up}

one_is : (a b : Bool) (P : Type 0) → (a ≡ true → P) → (b ≡ true → P) → (a || b) ≡ true → P
one_is true b P p q h = p refl
one_is false b P p q h = q h

-- a branch's number is below the limit
pub branches_below : (bs : List BranchParts) (rm : ℕ) → All IsBranch bs → list_any (is_at rm) bs ≡ true → rm < most_managers
branches_below [] rm each h = absurd (cc)
branches_below (b ∷ bs) rm each h =
    one_is (eqb b.rm rm) (list_any (is_at rm) bs) (rm < most_managers)
    (λ here. let same : b.rm ≡ rm = eqb-true b.rm rm here in subst (λ (n : ℕ). n < most_managers) same (each 0 b (omega arith)).rm)
    (λ there. branches_below bs rm (λ k d lt. each (suc k) d (omega arith)) there)
    h

-- so is an instance of a transaction
pub instance_below : {tx : TxParts} {rm : ℕ} → IsInstance tx rm → rm < most_managers
instance_below {tx} {rm} is = branches_below tx.branches rm is.valid.branches.each is.named

-- each instance of a bundle is below the resource managers' limit
pub each_below : (bs : List BranchParts) (ns : List ℕ) → All IsBranch bs → AllByRecursion (λ n. list_any (is_at n) bs ≡ true) ns
    → AllByRecursion (λ n. n < most_managers) ns
each_below bs [] each named = tt
each_below bs (n ∷ ns) each named = (branches_below bs n each named.0, each_below bs ns each named.1)

-- one of the later branches is above the first
above_first : (b : BranchParts) (bs : List BranchParts) (n : ℕ) → IsStrictlyIncreasing (rm_numbers (b ∷ bs))
    → list_any (is_at n) bs ≡ true → b.rm < n
above_first b [] n up h = absurd (cc)
above_first b (c ∷ cs) n up h =
    let first : b.rm < c.rm = up 0 (omega arith) in
    one_is (eqb c.rm n) (list_any (is_at n) cs) (b.rm < n) (λ here. let same : c.rm ≡ n = eqb-true c.rm n here in omega arith)
    (λ there. let next = above_first c cs n (later b.rm c.rm (rm_numbers cs) up) there in omega arith) h

-- the later of ascending numbers are above the first, and above what is below it
above_each : (low n : ℕ) (ns : List ℕ) → low < n → IsStrictlyIncreasing (n ∷ ns) → AllByRecursion (λ m. low < m) (n ∷ ns)
above_each low n [] lt up = (lt, tt)
above_each low n (m ∷ ns) lt up =
    let next : n < m = up 0 (omega arith) in
    (lt, above_each low m ns (omega arith) (later n m ns up))

-- what is above the first branch is one of the later ones
one_later : (b : BranchParts) (bs : List BranchParts) (ns : List ℕ) → AllByRecursion (λ n. b.rm < n) ns
    → AllByRecursion (λ n. list_any (is_at n) (b ∷ bs) ≡ true) ns → AllByRecursion (λ n. list_any (is_at n) bs ≡ true) ns
one_later b bs [] above named = tt
one_later b bs (n ∷ ns) above named =
    let here = one_is (eqb b.rm n) (list_any (is_at n) bs) (list_any (is_at n) bs ≡ true)
    (λ here. let same : b.rm ≡ n = eqb-true b.rm n here in absurd (omega (arith, above.0))) (λ there. there) named.0 in
    (here, one_later b bs ns above.1 named.1)

above_later : (n : ℕ) (ns : List ℕ) → IsStrictlyIncreasing (n ∷ ns) → AllByRecursion (λ m. n < m) ns
above_later n [] up = tt
above_later n (m ∷ ms) up = above_each n m ms (up 0 (omega arith)) (later n m ms up)

-- ascending numbers of branches that ascend are no more than these
no_more_than : (ns : List ℕ) (bs : List BranchParts) → IsStrictlyIncreasing ns → IsStrictlyIncreasing (rm_numbers bs)
    → AllByRecursion (λ n. list_any (is_at n) bs ≡ true) ns → length ns ≤ length bs
no_more_than [] bs up ups named = omega arith
no_more_than (n ∷ ns) [] up ups named = absurd (cc (named.0))
no_more_than (n ∷ ns) (b ∷ bs) up ups named =
    let up' = tail_up n ns up in
    let ups' = tail_up b.rm (rm_numbers bs) ups in
    one_is (eqb b.rm n) (list_any (is_at n) bs) (suc (length ns) ≤ suc (length bs))
    (λ e.
    let same : n ≡ b.rm = sym (eqb-true b.rm n e) in
    let above = subst (λ (x : ℕ). AllByRecursion (λ m. x < m) ns) same (above_later n ns up) in
    let fewer = no_more_than ns bs up' ups' (one_later b bs ns above named.1) in
    omega arith)
    (λ h.
    let above = above_each b.rm n ns (above_first b bs n ups h) up in
    let fewer = no_more_than (n ∷ ns) bs up ups' (one_later b bs (n ∷ ns) above named) in
    omega arith)
    named.0

-- a bundle has no more instances than there may be branches
pub few_instances : {tx : TxParts} {ns : List ℕ} → AreInstances tx ns → length ns ≤ most_branches
few_instances {tx} {ns} are =
    let fewer = no_more_than ns tx.branches are.ascending are.valid.branches.ascending are.named in
    omega (arith, are.valid.branches.few)

-- and their numbers are below the limit
pub instances_below : {tx : TxParts} {ns : List ℕ} → AreInstances tx ns → AllByRecursion (λ n. n < most_managers) ns
instances_below {tx} {ns} are = each_below tx.branches ns are.valid.branches.each are.named
