-- The text of a transaction, written branch by branch from its spelling: for `put_branch` and `put_text`.
use Rattle.std.proofs.Common.{◌≡◌, ◌∙◌, ℕ, ◌+◌, ◌<◌, List, [], ◌∷◌, ◌++◌, length, take, get_or, Option, Some, None, decimal}
use Rattle.std.proofs.Common.{refl, sym, ap, append_assoc, arith}
use Rattle.std.specs.Prelude.{false, is_some}
use Rattle.std.specs.List.{flat_map}
use Rattle.std.proofs.lemmas.Grind.{flat_map-append, take_at_read}
use Rattle.std.proofs.lemmas.List.{append-nil, length-take}
use Rattle.xid.specs.Text.{hex_text}
use Rattle.xid.specs.Transactions.{BranchParts, TxParts, IsTx, branch_text, branches_text}
use Rattle.xid.specs.Places.{Place, tx_place}
use Rattle.wire.specs.Grammar.{branches_spelling, component_spelling, number_spelling, tx_spelling}
use Rattle.wire.specs.Names.{name_at}
use Rattle.wire.specs.Reading.{branch_at, byte_at, component_at, rm_at}
use Rattle.wire.specs.Spelled.{branches_from}
use Rattle.wire.specs.Versions.{version_2}
use Rattle.wire.proofs.Places.{name_again}
use Rattle.wire.proofs.Spelled.{some_same}

-- ---- a branch

-- a branch is there where its parts are
pub branch_of_parts : (bytes middle rest bqual : List ℕ) (rm : ℕ) → Some (rm, middle) ≡ rm_at version_2 bytes
    → Some (bqual, rest) ≡ component_at middle → branch_at version_2 bytes ≡ Some (record { rm = rm; bqual = bqual }, rest)
unfolding branch_at
branch_of_parts bytes middle rest bqual rm first second = rw (sym first, sym second) refl

-- without its number there is none
pub no_number : (bytes : List ℕ) → None ≡ rm_at version_2 bytes → is_some (branch_at version_2 bytes) ≡ false
unfolding branch_at
no_number bytes none = rw (sym none) refl

-- and without its bqual
pub no_name : (bytes middle : List ℕ) (rm : ℕ) → Some (rm, middle) ≡ rm_at version_2 bytes → None ≡ component_at middle
    → is_some (branch_at version_2 bytes) ≡ false
unfolding branch_at
no_name bytes middle rm first none = rw (sym first, sym none) refl

-- its text, written piece by piece
pub branch_written : {rm : ℕ} {bqual : List ℕ} (branch : BranchParts)
    → ◌≡◌ {A = BranchParts} (record { rm = rm; bqual = bqual }) branch → (old number mark all : List ℕ) → number ≡ old ++ decimal rm
    → mark ≡ number ++ 61 ∷ [] → all ≡ mark ++ hex_text bqual → all ≡ old ++ branch_text branch
branch_written branch same old number mark all number_is mark_is all_is =
    rw (sym same, all_is, mark_is, number_is) (simp append_assoc)

-- ---- a transaction

-- the parts that stand at the front of its spelling, and what follows them
pub record Named (tx : TxParts) (format : ℕ) (gtrid rest : List ℕ) : Type 0 where
  pub format_is : format ≡ tx.format
  pub gtrid_is : gtrid ≡ tx.gtrid
  pub rest_is : rest ≡ branches_spelling version_2 tx.branches

-- what stands at the front of its spelling
pub name_of : (bytes : List ℕ) (tx : TxParts) → IsTx tx → bytes ≡ tx_spelling version_2 tx
    → name_at bytes ≡ Some (tx_place tx, branches_spelling version_2 tx.branches)
name_of bytes tx is spelled =
    ap name_at
    (spelled ∙ sym (append_assoc (number_spelling tx.format) (component_spelling tx.gtrid) (branches_spelling version_2 tx.branches)))
    ∙ name_again (tx_place tx) (branches_spelling version_2 tx.branches)
    (record { format = omega (arith, is.format); few = is.gtrid.few; bytes = is.gtrid.bytes })

pub named : (bytes : List ℕ) (tx : TxParts) (format : ℕ) (gtrid rest : List ℕ) → IsTx tx → bytes ≡ tx_spelling version_2 tx
    → ◌≡◌ {A = Option (Place × List ℕ)} (Some (record { format = format; gtrid = gtrid }, rest)) (name_at bytes)
    → Named tx format gtrid rest
named bytes tx format gtrid rest is spelled read =
    let same =
    some_same (record { format = format; gtrid = gtrid }, rest) (tx_place tx, branches_spelling version_2 tx.branches)
    (read ∙ name_of bytes tx is spelled) in
    record {
      format_is = ap (λ (x : Place × List ℕ). x.0.format) same;
      gtrid_is = ap (λ (x : Place × List ℕ). x.0.gtrid) same;
      rest_is = ap (λ (x : Place × List ℕ). x.1) same;
    }

-- the branches, behind how many they are
pub counted : (bs : List BranchParts) (rest after : List ℕ) (count : ℕ) → rest ≡ branches_spelling version_2 bs
    → ◌≡◌ {A = Option (ℕ × List ℕ)} (Some (count, after)) (byte_at rest) → after ≡ branches_from bs 0
counted bs rest after count is read =
    ap (λ (x : ℕ × List ℕ). x.1) (some_same (count, after) (length bs, branches_from bs 0) (read ∙ ap byte_at is))

-- its text up to so many branches
abbrev pub begun : TxParts → ℕ → List ℕ
begun tx count = decimal tx.format ++ 58 ∷ (hex_text tx.gtrid ++ 47 ∷ branches_text (take count tx.branches))

-- one branch more, behind others
joined_push : (bs : List BranchParts) (b : BranchParts) → 0 < length bs
    → branches_text (bs ++ b ∷ []) ≡ branches_text bs ++ 44 ∷ branch_text b
joined_push [] b some = absurd (omega arith)
joined_push (x ∷ xs) b some =
    ap (λ (t : List ℕ). branch_text x ++ t)
    (flat_map-append (λ (y : BranchParts). 44 ∷ branch_text y) xs (b ∷ [])
    ∙ ap (λ (t : List ℕ). flat_map (λ (y : BranchParts). 44 ∷ branch_text y) xs ++ t) (append-nil (44 ∷ branch_text b)))
    ∙ sym (append_assoc (branch_text x) (flat_map (λ (y : BranchParts). 44 ∷ branch_text y) xs) (44 ∷ branch_text b))

-- up to the first branch
pub begun_first : (tx : TxParts) (d : BranchParts) (old : List ℕ) → 0 < length tx.branches
    → ((((old ++ decimal tx.format) ++ 58 ∷ []) ++ hex_text tx.gtrid) ++ 47 ∷ []) ++ branch_text (get_or tx.branches 0 d)
    ≡ old ++ begun tx 1
begun_first tx d old some = first tx.branches some
  where
    first : (bs : List BranchParts) → 0 < length bs
        → ((((old ++ decimal tx.format) ++ 58 ∷ []) ++ hex_text tx.gtrid) ++ 47 ∷ []) ++ branch_text (get_or bs 0 d)
        ≡ old ++ (decimal tx.format ++ 58 ∷ (hex_text tx.gtrid ++ 47 ∷ branches_text (take 1 bs)))
    first [] some = absurd (omega arith)
    first (b ∷ bs) some = simp (append_assoc, append-nil)

-- and as it is written
pub first_written : (tx : TxParts) (d : BranchParts) (old number colon name slash all : List ℕ) (format : ℕ) (gtrid : List ℕ)
    → 0 < length tx.branches → format ≡ tx.format → gtrid ≡ tx.gtrid → number ≡ old ++ decimal format → colon ≡ number ++ 58 ∷ []
    → name ≡ colon ++ hex_text gtrid → slash ≡ name ++ 47 ∷ [] → all ≡ slash ++ branch_text (get_or tx.branches 0 d)
    → all ≡ old ++ begun tx 1
first_written tx d old number colon name slash all format gtrid some format_is gtrid_is number_is colon_is name_is slash_is all_is =
    rw (all_is, slash_is, name_is, colon_is, number_is, format_is, gtrid_is) (begun_first tx d old some)

-- and one branch more
pub begun_more : (tx : TxParts) (i : ℕ) (d : BranchParts) (old text : List ℕ) → 0 < i → i < length tx.branches → text ≡ old ++ begun tx i
    → (text ++ 44 ∷ []) ++ branch_text (get_or tx.branches i d) ≡ old ++ begun tx (i + 1)
begun_more tx i d old text some within is =
    let long : 0 < length (take i tx.branches) = omega (arith, length-take i tx.branches, some, within) in
    let more : branches_text (take (i + 1) tx.branches) ≡ branches_text (take i tx.branches) ++ 44 ∷ branch_text (get_or tx.branches i d) =
    ap branches_text (take_at_read tx.branches i d within).1 ∙ joined_push (take i tx.branches) (get_or tx.branches i d) long in
    rw (is, more) (simp append_assoc)
