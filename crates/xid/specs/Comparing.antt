-- The tests of two branches, of two XIDs and of two transactions agree with their orders, and with what hashing feeds.
use Rattle.std.specs.Prelude.{◌≡◌, ◌&&◌, ◌==◌, true, List}
use Rattle.std.specs.Cmp.{IsTotalOrder, both_tied, unsigned_ties, unsigned_Decides, nat_cmp_total, on_total, then_total}
use Rattle.std.specs.Cmp.Lexicographic.{slice_cmp, pointwise, on_texts, texts_ties, lists_total, lists_ties}
use Rattle.std.specs.Hash as fed
use Rattle.std.specs.Ordering.{nat_cmp, eq_by_cmp, then_cmp, on}
use Rattle.std.specs.Str.{bytes_eq}
use Rattle.std.proofs.lemmas.Slice.Eq.{bytes_eq-Decides}
use Rattle.xid.specs.Names.{XidParts, component_fed, xid_eq, xid_cmp}
use Rattle.xid.specs.Transactions.{BranchParts, TxParts, branch_eq, branch_cmp, branch_fed, tx_eq, tx_cmp}

branch_ties : (a b : BranchParts) → branch_eq a b ≡ eq_by_cmp branch_cmp a b
branch_ties a b =
    both_tied (a.rm == b.rm) (pointwise ◌==◌ a.bqual b.bqual) (nat_cmp a.rm b.rm) (slice_cmp nat_cmp a.bqual b.bqual)
    (unsigned_ties a.rm b.rm) (texts_ties a.bqual b.bqual)

branch_total : IsTotalOrder branch_cmp
branch_total = then_total (on_total (λ (b : BranchParts). b.rm) nat_cmp_total) (on_texts (λ (b : BranchParts). b.bqual))

-- two lists of branches are the same where their order says so
pub branches_tie : (xs ys : List BranchParts) → pointwise branch_eq xs ys ≡ eq_by_cmp (slice_cmp branch_cmp) xs ys
branches_tie = lists_ties branch_cmp branch_ties

-- the same bytes feed the same to hashing
pub component_alike : fed.Alike (pointwise ◌==◌) component_fed
component_alike = fed.same_Alike component_fed bytes_eq-Decides

branch_alike : fed.Alike branch_eq branch_fed
branch_alike =
    fed.and-Alike (fed.on_Alike (λ (b : BranchParts). b.rm) (fed.same_Alike fed.u16 unsigned_Decides))
    (fed.on_Alike (λ (b : BranchParts). b.bqual) component_alike)

-- the order of transactions is total
pub tx_total : IsTotalOrder tx_cmp
tx_total =
    then_total (on_total (λ (tx : TxParts). tx.format) nat_cmp_total)
    (then_total (on_texts (λ (tx : TxParts). tx.gtrid)) (on_total (λ (tx : TxParts). tx.branches) (lists_total branch_total)))

-- the same lists of branches feed the same to hashing
pub branches_alike : (xs ys : List BranchParts) → pointwise branch_eq xs ys ≡ true → fed.slice branch_fed xs ≡ fed.slice branch_fed ys
branches_alike = (fed.items_Alike branch_alike).fed

-- two XIDs are the same where their order says so
pub xid_ties : (x y : XidParts) → xid_eq x y ≡ eq_by_cmp xid_cmp x y
xid_ties x y =
    both_tied (x.format == y.format) (bytes_eq x.gtrid y.gtrid && bytes_eq x.bqual y.bqual)
    (nat_cmp x.format y.format)
    (then_cmp (on (λ (z : XidParts). z.gtrid) (slice_cmp nat_cmp)) (on (λ (z : XidParts). z.bqual) (slice_cmp nat_cmp)) x y)
    (unsigned_ties x.format y.format)
    (both_tied (bytes_eq x.gtrid y.gtrid) (bytes_eq x.bqual y.bqual) (slice_cmp nat_cmp x.gtrid y.gtrid) (slice_cmp nat_cmp x.bqual y.bqual)
    (texts_ties x.gtrid y.gtrid) (texts_ties x.bqual y.bqual))

-- two transactions are the same where their order says so
pub tx_ties : (a b : TxParts) → tx_eq a b ≡ eq_by_cmp tx_cmp a b
tx_ties a b =
    both_tied (a.format == b.format) (pointwise ◌==◌ a.gtrid b.gtrid && pointwise branch_eq a.branches b.branches)
    (nat_cmp a.format b.format)
    (then_cmp (on (λ (tx : TxParts). tx.gtrid) (slice_cmp nat_cmp)) (on (λ (tx : TxParts). tx.branches) (slice_cmp branch_cmp)) a b)
    (unsigned_ties a.format b.format)
    (both_tied (pointwise ◌==◌ a.gtrid b.gtrid) (pointwise branch_eq a.branches b.branches)
    (slice_cmp nat_cmp a.gtrid b.gtrid) (slice_cmp branch_cmp a.branches b.branches)
    (texts_ties a.gtrid b.gtrid) (branches_tie a.branches b.branches))
