-- What a transaction is: a format, a gtrid, and for each resource manager that takes part the bqual of its branch.
-- The list is part of the name (this system's own): two lists make two transactions.
use Rattle.std.specs.Prelude.{ℕ, ◌<◌, ◌≤◌, ◌==◌, ◌&&◌, ◌++◌, ◌∷◌, Bool, List, [], Option, length, map, decimal}
use Rattle.std.specs.Borrow.{Bor}
use Rattle.std.specs.Cmp.Lexicographic.{slice_cmp, pointwise}
use Rattle.std.specs.Hash as fed
use Rattle.std.specs.List.{slice_index_or, All, find, list_any, join_by}
use Rattle.std.specs.List.Sorted.{IsStrictlyIncreasing}
use Rattle.std.specs.Option.{option_map}
use Rattle.std.specs.Ordering.{nat_cmp, on, then_cmp, eq_of_both}
use Rattle.std.specs.declared.cmp.Ordering.{Ordering}
use Rattle.xid.specs.Names.{IsComponent, XidParts, component_fed}
use Rattle.xid.specs.Text.{hex_text}
use Rattle.xid.specs.Limits.{most_managers, most_branches, formats}

-- a branch: the number of its resource manager, and its bqual
pub record BranchParts : Type 0 where
  pub rm : ℕ
  pub bqual : List ℕ

-- a transaction as its parts; the code sees a `Tx` so
pub record TxParts : Type 0 where
  pub format : ℕ
  pub gtrid : List ℕ
  pub branches : List BranchParts

-- the parts that a branch may have
pub record IsBranch (b : BranchParts) : Type 0 where
  pub rm : b.rm < most_managers
  pub bqual : IsComponent b.bqual

-- the resource managers of branches, in their order
abbrev pub rm_numbers : List BranchParts → List ℕ
rm_numbers branches = map (λ b. b.rm) branches

-- the branches that a transaction may have: at least one, at most so many, resource managers strictly ascending
pub record AreBranches (branches : List BranchParts) : Type 0 where
  pub some : 0 < length branches
  pub few : length branches ≤ most_branches
  pub each : All IsBranch branches
  pub ascending : IsStrictlyIncreasing (rm_numbers branches)

-- the parts that a transaction may have
pub record IsTx (tx : TxParts) : Type 0 where
  pub format : tx.format < formats
  pub gtrid : IsComponent tx.gtrid
  pub branches : AreBranches tx.branches

-- the resource managers that take part, in their order
abbrev pub participants : TxParts → List ℕ
participants tx = rm_numbers tx.branches

-- the branch at a place of the list
abbrev pub nth_branch : TxParts → ℕ → BranchParts
nth_branch tx i = slice_index_or tx.branches i (record { rm = 0; bqual = [] })

-- whether two branches are the same
abbrev pub branch_eq : BranchParts → BranchParts → Bool
branch_eq = eq_of_both (on (λ b. b.rm) ◌==◌) (on (λ b. b.bqual) (pointwise ◌==◌))

-- branches are ordered by resource manager, then by bqual
abbrev pub branch_cmp : BranchParts → BranchParts → Ordering
branch_cmp = then_cmp (on (λ b. b.rm) nat_cmp) (on (λ b. b.bqual) (slice_cmp nat_cmp))

-- what hashing a branch feeds
abbrev pub branch_fed : BranchParts → fed.HashWrites
branch_fed b = fed.u16 b.rm ++ component_fed b.bqual

-- whether two transactions are the same
abbrev pub tx_eq : TxParts → TxParts → Bool
tx_eq a b = (a.format == b.format) && (pointwise ◌==◌ a.gtrid b.gtrid && pointwise branch_eq a.branches b.branches)

-- transactions are ordered by format, then by gtrid, then by the list of branches
abbrev pub tx_cmp : TxParts → TxParts → Ordering
tx_cmp =
    then_cmp (on (λ tx. tx.format) nat_cmp)
    (then_cmp (on (λ tx. tx.gtrid) (slice_cmp nat_cmp)) (on (λ tx. tx.branches) (slice_cmp branch_cmp)))

-- a branch as a caller gives it
abbrev pub branch_of : ℕ × Bor (List ℕ) → BranchParts
branch_of b = record { rm = b.0; bqual = b.1.now }

-- whether a branch is a resource manager's
abbrev pub is_at : ℕ → BranchParts → Bool
is_at rm b = b.rm == rm

-- whether a resource manager takes part
abbrev pub is_participant : TxParts → ℕ → Bool
is_participant tx rm = list_any (is_at rm) tx.branches

-- the XID of a branch of a transaction
abbrev pub xid_of : TxParts → BranchParts → XidParts
xid_of tx b = record { format = tx.format; gtrid = tx.gtrid; bqual = b.bqual }

-- a resource manager's branch, where it takes part
abbrev pub xid_at : TxParts → ℕ → Option XidParts
xid_at tx rm = option_map (xid_of tx) (find (is_at rm) tx.branches)

-- the text of a branch, rm = bqual
abbrev pub branch_text : BranchParts → List ℕ
branch_text b = decimal b.rm ++ 61 ∷ hex_text b.bqual

-- the text of branches, with commas between
abbrev pub branches_text : List BranchParts → List ℕ
branches_text bs = join_by branch_text (44 ∷ []) bs

-- the one text of a transaction, format : gtrid / branches
abbrev pub tx_text : TxParts → List ℕ
tx_text tx = decimal tx.format ++ 58 ∷ (hex_text tx.gtrid ++ 47 ∷ branches_text tx.branches)
