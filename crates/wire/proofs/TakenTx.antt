-- A transaction at the front of bytes, in a version: what is taken was spelled, and what is spelled is taken again.
-- Needed by `take_tx` and `view_of`; Ends; crates stable_record, transactions and serving.
use Rattle.std.proofs.Common.{◌≡◌, ℕ, ◌<◌, ◌≤◌, Bool, true, false, cond, ltb, List, ◌++◌, length, Option, Some, None, refl, subst, ◌∙◌}
use Rattle.std.proofs.Common.{arith}
use Rattle.std.specs.List.{All}
use Rattle.std.specs.Bool.{Decides}
use Rattle.std.proofs.lemmas.Bool.Decides.{nat_tests, Decides-by_and, Decides-ltb}
use Rattle.xid.specs.Names.{IsBytes}
use Rattle.xid.specs.Transactions.{TxParts, BranchParts, IsTx}
use Rattle.wire.specs.Versions.{Version, version_of, IsWide, IsTxIn}
use Rattle.wire.specs.declared.grammar.VersionNumber.{VersionNumber}
use Rattle.wire.specs.declared.grammar.VersionNumber.TheVariants.{First, Second}
use Rattle.wire.specs.Grammar.{tx_spelling, branch_spelling}
use Rattle.wire.specs.Reading.{number_at, component_at, byte_at, branch_at, branches_at, tx_at}
use Rattle.wire.specs.Decoding.{is_tx, are_managers, tx_in}
use Rattle.wire.proofs.Fields.{tx_again}
use Rattle.wire.proofs.Spelled.{Front, some_same, step, unless, byte_spelled, number_spelled, component_spelled, branch_spelled}
use Rattle.wire.proofs.Spelled.{list_spelled, tx_spelled}
use Rattle.wire.proofs.DecodingLemmas.{tx_decides, kept}
use Rattle.wire.proofs.Notices.{passes}

managers_decide : (v : Version) (bs : List BranchParts) → Decides (are_managers v bs) (All (λ b. b.rm < v.most_managers) bs)
managers_decide v bs =
    Decides-by_and (λ b. ltb b.rm v.most_managers) (λ b. b.rm < v.most_managers) (are_managers v) (λ b. Decides-ltb b.rm v.most_managers)
    refl (λ _ _. refl) bs

module _ (v : Version) (bytes : List ℕ) where
  -- where the parts of none can be taken, no transaction is
  pub no_parts : tx_at v bytes ≡ None → tx_in v bytes ≡ None
  unfolding tx_in
  no_parts e = rw e refl

  pub asked : (tx : TxParts) (rest : List ℕ) → tx_at v bytes ≡ Some (tx, rest)
      → tx_in v bytes ≡ cond (is_tx tx) (cond (are_managers v tx.branches) (Some (tx, rest)) None) None
  unfolding tx_in
  asked tx rest e = rw e refl

  -- so it is where the parts are no transaction's
  pub no_tx : (tx : TxParts) (rest : List ℕ) → tx_at v bytes ≡ Some (tx, rest) → (IsTx tx → ⊥) → tx_in v bytes ≡ None
  no_tx tx rest e not = asked tx rest e ∙ by (is_tx tx) (λ h. not ((tx_decides tx).0 h))
    where
      give : Option (TxParts × List ℕ)
      give = Some (tx, rest)

      by : (t : Bool) → (t ≡ true → ⊥) → cond t (cond (are_managers v tx.branches) give None) None ≡ None
      by true nay = absurd (nay refl)
      by false nay = refl

  -- and where a number is too great for the version
  pub too_great : (tx : TxParts) (rest : List ℕ) → tx_at v bytes ≡ Some (tx, rest) → IsTx tx → are_managers v tx.branches ≡ false
      → tx_in v bytes ≡ None
  too_great tx rest e is great = let yes : is_tx tx ≡ true = (tx_decides tx).1 is in asked tx rest e ∙ rw (yes, great) refl

  -- else it is taken
  pub found : (tx : TxParts) (rest : List ℕ) → tx_at v bytes ≡ Some (tx, rest) → IsTx tx → are_managers v tx.branches ≡ true
      → tx_in v bytes ≡ Some (tx, rest)
  found tx rest e is small = let yes : is_tx tx ≡ true = (tx_decides tx).1 is in asked tx rest e ∙ rw (yes, small) refl

-- no more branches are taken than a version has
few_taken : (v : VersionNumber) (bytes : List ℕ) (x : TxParts × List ℕ) → IsBytes bytes → tx_at (version_of v) bytes ≡ Some x
    → length x.0.branches ≤ (version_of v).most_branches
unfolding tx_at
few_taken v bytes x is e =
    step (number_at bytes) _ e (λ format ef e. step (component_at format.1) _ e (λ gtrid eg e. step (byte_at gtrid.1) _ e (λ count ec e.
    let few = unless (ltb (version_of v).most_branches count.0) _ x e in
    step (branches_at (version_of v) count.0 count.1) _ few.1 (λ branches eb e.
    let one = number_spelled bytes format is ef in
    let two = component_spelled format.1 gtrid one.after eg in
    let three = byte_spelled gtrid.1 count two.after ec in
    let four =
    list_spelled (branch_at (version_of v)) (branch_spelling (version_of v)) (branch_spelled v) count.0 count.1 branches three.after eb in
    let tx : TxParts = record { format = format.0; gtrid = gtrid.0; branches = branches.0 } in
    let counted : length branches.0 ≡ count.0 = four.counted in
    let below : count.0 ≤ (version_of v).most_branches = grind (arith, nat_tests, few.0) in
    subst (λ (x : TxParts × List ℕ). length x.0.branches ≤ (version_of v).most_branches) (some_same (tx, branches.1) x e)
    (omega (arith, counted, below))))))

pub wide : (v : VersionNumber) → IsWide (version_of v)
wide First = omega arith
wide Second = omega arith

-- a transaction that was taken in a version was spelled in it
pub in_spelled : (v : VersionNumber) (bytes : List ℕ) (x : TxParts × List ℕ) → IsBytes bytes → tx_in (version_of v) bytes ≡ Some x
    → IsTxIn (version_of v) x.0 × Front bytes (tx_spelling (version_of v) x.0) x.1
unfolding tx_in
in_spelled v bytes x is e =
    step (tx_at (version_of v) bytes) _ e (λ y ey e.
    let one = passes (is_tx y.0) _ x e in
    let two = kept (are_managers (version_of v) y.0.branches) y x one.1 in
    let in-it : IsTxIn (version_of v) y.0 = record {
      valid = (tx_decides y.0).0 one.0;
      few = few_taken v bytes y is ey;
      managers = (managers_decide (version_of v) y.0.branches).0 two.0;
    } in
    subst (λ (x : TxParts × List ℕ). IsTxIn (version_of v) x.0 × Front bytes (tx_spelling (version_of v) x.0) x.1) two.1
    (in-it, tx_spelled v bytes y is ey))

-- and one that was spelled in it is taken
pub in_again : (v : VersionNumber) (tx : TxParts) (rest : List ℕ) → IsTxIn (version_of v) tx
    → tx_in (version_of v) (tx_spelling (version_of v) tx ++ rest) ≡ Some (tx, rest)
in_again v tx rest is =
    found (version_of v) (tx_spelling (version_of v) tx ++ rest) tx rest (tx_again (version_of v) tx rest (wide v) is) is.valid
    ((managers_decide (version_of v) tx.branches).1 is.managers)
