-- The tests of two XIDs, of two branches and of two transactions are equality.
use Rattle.std.proofs.Common.{◌≡◌, ◌≢◌, ◌∙◌, true, false, ◌==◌, ◌&&◌, List, refl, sym, subst}
use Rattle.std.specs.Bool.{Decides}
use Rattle.std.specs.Cmp.{unsigned_Decides, first_so, second_so}
use Rattle.std.specs.Cmp.Lexicographic.{pointwise, pointwise_decides, bytes_decides}
use Rattle.std.specs.Str.{bytes_eq}
use Rattle.std.proofs.lemmas.Bool.{and_from, false_from_ne_true, false≢true}
use Rattle.xid.specs.Names.{XidParts, xid_eq}
use Rattle.xid.specs.Transactions.{TxParts, BranchParts, branch_eq, tx_eq}
pub use Rattle.std.proofs.lemmas.Bool.{not-true as not_true}

-- ---- XIDs

pub xid_self : (x : XidParts) → xid_eq x x ≡ true
xid_self x =
    and_from (x.format == x.format) (bytes_eq x.gtrid x.gtrid && bytes_eq x.bqual x.bqual) ((unsigned_Decides x.format x.format).1 refl)
    (and_from (bytes_eq x.gtrid x.gtrid) (bytes_eq x.bqual x.bqual)
    ((bytes_decides x.gtrid x.gtrid).1 refl) ((bytes_decides x.bqual x.bqual).1 refl))

-- XIDs that are found equal are one and the same
pub xid_decides : (x y : XidParts) → Decides (xid_eq x y) (x ≡ y)
xid_decides x y = (told, λ e. subst (λ (z : XidParts). xid_eq x z ≡ true) e (xid_self x))
  where
    told : xid_eq x y ≡ true → x ≡ y
    told h =
        let rest = second_so (x.format == y.format) (bytes_eq x.gtrid y.gtrid && bytes_eq x.bqual y.bqual) h in
        let formats = (unsigned_Decides x.format y.format).0
        (first_so (x.format == y.format) (bytes_eq x.gtrid y.gtrid && bytes_eq x.bqual y.bqual) h) in
        let gtrids = (bytes_decides x.gtrid y.gtrid).0 (first_so (bytes_eq x.gtrid y.gtrid) (bytes_eq x.bqual y.bqual) rest) in
        let bquals = (bytes_decides x.bqual y.bqual).0 (second_so (bytes_eq x.gtrid y.gtrid) (bytes_eq x.bqual y.bqual) rest) in
        λ i. record { format = formats i; gtrid = gtrids i; bqual = bquals i }

pub xid_other : (x y : XidParts) → x ≢ y → xid_eq x y ≡ false
xid_other x y apart = false_from_ne_true (xid_eq x y) (λ e. apart ((xid_decides x y).0 e))

pub xid_apart : (x y : XidParts) → xid_eq x y ≡ false → x ≢ y
xid_apart x y e same = false≢true (sym e ∙ (xid_decides x y).1 same)

-- ---- branches

branch_self : (a : BranchParts) → branch_eq a a ≡ true
branch_self a =
    and_from (a.rm == a.rm) (pointwise ◌==◌ a.bqual a.bqual) ((unsigned_Decides a.rm a.rm).1 refl) ((bytes_decides a.bqual a.bqual).1 refl)

branch_decides : (a b : BranchParts) → Decides (branch_eq a b) (a ≡ b)
branch_decides a b = (
  λ h.
      let rms = (unsigned_Decides a.rm b.rm).0 (first_so (a.rm == b.rm) (pointwise ◌==◌ a.bqual b.bqual) h) in
      let bquals = (bytes_decides a.bqual b.bqual).0 (second_so (a.rm == b.rm) (pointwise ◌==◌ a.bqual b.bqual) h) in
      λ i. record { rm = rms i; bqual = bquals i },
  λ e. subst (λ (x : BranchParts). branch_eq a x ≡ true) e (branch_self a),
)

branches_decide : (xs ys : List BranchParts) → Decides (pointwise branch_eq xs ys) (xs ≡ ys)
branches_decide = pointwise_decides branch_decides

-- ---- transactions

pub tx_self : (a : TxParts) → tx_eq a a ≡ true
tx_self a =
    and_from (a.format == a.format) (pointwise ◌==◌ a.gtrid a.gtrid && pointwise branch_eq a.branches a.branches)
    ((unsigned_Decides a.format a.format).1 refl)
    (and_from (pointwise ◌==◌ a.gtrid a.gtrid) (pointwise branch_eq a.branches a.branches)
    ((bytes_decides a.gtrid a.gtrid).1 refl) ((branches_decide a.branches a.branches).1 refl))

-- transactions that are found equal are one and the same
pub tx_decides : (a b : TxParts) → Decides (tx_eq a b) (a ≡ b)
tx_decides a b = (told, λ e. subst (λ (x : TxParts). tx_eq a x ≡ true) e (tx_self a))
  where
    told : tx_eq a b ≡ true → a ≡ b
    told h =
        let rest = second_so (a.format == b.format) (pointwise ◌==◌ a.gtrid b.gtrid && pointwise branch_eq a.branches b.branches) h in
        let formats = (unsigned_Decides a.format b.format).0
        (first_so (a.format == b.format) (pointwise ◌==◌ a.gtrid b.gtrid && pointwise branch_eq a.branches b.branches) h) in
        let gtrids = (bytes_decides a.gtrid b.gtrid).0
        (first_so (pointwise ◌==◌ a.gtrid b.gtrid) (pointwise branch_eq a.branches b.branches) rest) in
        let branches = (branches_decide a.branches b.branches).0
        (second_so (pointwise ◌==◌ a.gtrid b.gtrid) (pointwise branch_eq a.branches b.branches) rest) in
        λ i. record { format = formats i; gtrid = gtrids i; branches = branches i }
