-- Where a transaction at the front of bytes ends.
-- Needed by `SpelledTx::take` and `after_branches`.
use Rattle.std.proofs.Common.{◌≡◌, ℕ, zero, suc, ◌+◌, ◌-◌, ◌<◌, ◌≤◌, false, ltb, leb, eqb, List, [], ◌∷◌, ◌++◌, length, take}
use Rattle.std.proofs.Common.{Option, Some, None, refl, sym, ap, subst, ◌∙◌, append_assoc, arith, slice_index}
use Rattle.std.specs.List.{flat_map, All, AllByRecursion}
use Rattle.std.specs.List.Sorted.{IsStrictlyIncreasing}
use Rattle.std.proofs.Math.Dec.{eqb-suc-zero}
use Rattle.std.proofs.lemmas.Bool.{le-ltb, ltb-false}
use Rattle.std.proofs.lemmas.Bool.Decides.{nat_tests}
use Rattle.std.proofs.lemmas.List.{length-append, take_at}
use Rattle.std.proofs.lemmas.List.Concat.{flat_map-cons}
use Rattle.std.proofs.lemmas.List.Elements.{recursion_from_All}
use Rattle.xid.specs.Limits.{most_managers, most_component, most_branches, formats}
use Rattle.xid.specs.Names.{IsBytes}
use Rattle.xid.specs.Transactions.{TxParts, BranchParts, IsTx, IsBranch, rm_numbers}
use Rattle.wire.specs.Versions.{version_2}
use Rattle.wire.specs.declared.grammar.VersionNumber.TheVariants.{Second}
use Rattle.wire.specs.Grammar.{tx_spelling, branch_spelling, branches_spelling, number_spelling, component_spelling}
use Rattle.wire.specs.Reading.{number_at, rm_at, component_at, byte_at, branch_at, branches_at, list_at, tx_at}
use Rattle.wire.specs.Decoding.{tx_in}
use Rattle.wire.proofs.Ascending.{IsFrom, from_zero, from_next, ascend_with, tail_up}
use Rattle.wire.proofs.Fields.{wide_2, in_version_2, branch_again, number_again, component_again}
use Rattle.wire.proofs.Spelled.{some_same, step, unless, byte_spelled, number_spelled, component_spelled, branch_spelled}
use Rattle.wire.proofs.Spelled as spelled
use Rattle.wire.proofs.TakenTx.{in_spelled, in_again}
use Rattle.wire.specs.Spelled.{manager_at, after_branches, after_tx}
use Rattle.wire.proofs.Places.{component_few}

-- ---- what was passed over is branches

bytes_front : (front rest : List ℕ) → IsBytes (front ++ rest) → (i : ℕ) → slice_index front i < 256
bytes_front [] rest is i = omega arith
bytes_front (x ∷ front) rest is zero = is 0
bytes_front (x ∷ front) rest is (suc i) = bytes_front front rest (λ i. is (suc i)) i

not_zero : (n : ℕ) → eqb n 0 ≡ false → 0 < n
not_zero zero e = absurd (cc)
not_zero (suc n) e = omega arith

pub is_not_zero : (n : ℕ) → 0 < n → eqb n 0 ≡ false
is_not_zero zero lt = absurd (omega arith)
is_not_zero (suc n) lt = eqb-suc-zero n

-- a branch that was passed over
record Passed (least : ℕ) (bytes : List ℕ) (m : ℕ × List ℕ) : Type 0 where
  pub branch : BranchParts
  pub read : branch_at version_2 bytes ≡ Some (branch, m.1)
  pub is : IsBranch branch
  pub same : branch.rm ≡ m.0
  pub least_is : least ≤ branch.rm
  pub after : IsBytes m.1

passed : (least : ℕ) (bytes : List ℕ) (m : ℕ × List ℕ) → IsBytes bytes → manager_at least bytes ≡ Some m → Passed least bytes m
unfolding manager_at branch_at
passed least bytes m is e =
    step (branch_at version_2 bytes) _ e (λ b eb e.
    let low = unless (ltb b.0.rm least) _ m e in
    let high = unless (leb most_managers b.0.rm) _ m low.1 in
    let some = unless (eqb (length b.0.bqual) 0) _ m high.1 in
    let front = branch_spelled Second bytes b is eb in
    let all : IsBytes (branch_spelling version_2 b.0 ++ b.1) = subst IsBytes front.same is in
    let bqual : IsBytes b.0.bqual = bytes_front b.0.bqual b.1 (λ i. all (suc (suc (suc i)))) in
    let few : length b.0.bqual ≤ most_component = few_of bytes b eb in
    let one : IsBranch b.0 = record {
      rm = leb-false' most_managers b.0.rm high.0;
      bqual = record { some = not_zero (length b.0.bqual) some.0; few = few; bytes = bqual };
    } in
    let least_is : least ≤ b.0.rm = ltb-false b.0.rm least low.0 in
    subst (λ (m : ℕ × List ℕ). Passed least bytes m) (some_same (b.0.rm, b.1) m some.1)
    (record { branch = b.0; read = eb; is = one; same = refl; least_is = least_is; after = front.after }))
  where
    leb-false' : (n m : ℕ) → leb n m ≡ false → m < n
    leb-false' n m e = grind (arith, nat_tests, e)

    few_of : (bytes : List ℕ) (b : BranchParts × List ℕ) → branch_at version_2 bytes ≡ Some b → length b.0.bqual ≤ most_component
    few_of bytes b e =
        step (rm_at version_2 bytes) _ e (λ rm er e. step (component_at rm.1) _ e (λ bqual eb e.
        subst (λ (b : BranchParts × List ℕ). length b.0.bqual ≤ most_component)
        (some_same (record { rm = rm.0; bqual = bqual.0 }, bqual.1) b e) (component_few rm.1 bqual eb)))

-- branches that were passed over
record Found (least n : ℕ) (bytes rest : List ℕ) : Type 0 where
  pub branches : List BranchParts
  pub read : branches_at version_2 n bytes ≡ Some (branches, rest)
  pub counted : length branches ≡ n
  pub each : AllByRecursion IsBranch branches
  pub from : IsFrom least (rm_numbers branches)
  pub ascending : IsStrictlyIncreasing (rm_numbers branches)

found : (n least : ℕ) (bytes rest : List ℕ) → IsBytes bytes → after_branches least n bytes ≡ Some rest → Found least n bytes rest
unfolding after_branches list_at
found zero least bytes rest is e = record {
  branches = [];
  read = ap (λ (xs : List ℕ). Some ([], xs)) (some_same bytes rest e);
  counted = refl;
  each = tt;
  from = tt;
  ascending = λ k lt. absurd (omega arith);
}
found (suc n) least bytes rest is e =
    step (manager_at least bytes) _ e (λ m em e.
    let one = passed least bytes m is em in
    let others = found n (m.0 + 1) m.1 rest one.after e in
    let from : IsFrom (one.branch.rm + 1) (rm_numbers others.branches) =
    subst (λ (rm : ℕ). IsFrom (rm + 1) (rm_numbers others.branches)) (sym one.same) others.from in
    record {
      branches = one.branch ∷ others.branches;
      read = rw (one.read, others.read) refl;
      counted = ap suc others.counted;
      each = (one.is, others.each);
      from = one.least_is;
      ascending = ascend_with one.branch.rm (rm_numbers others.branches) from others.ascending;
    })

-- ---- branches are passed over

manager_again : (least : ℕ) (b : BranchParts) (rest : List ℕ) → IsBranch b → least ≤ b.rm
    → manager_at least (branch_spelling version_2 b ++ rest) ≡ Some (b.rm, rest)
unfolding manager_at
manager_again least b rest is le =
    let low : ltb b.rm least ≡ false = le-ltb _ _ le in
    let high : leb most_managers b.rm ≡ false = grind (arith, nat_tests, is.rm) in
    rw (branch_again version_2 b rest wide_2 is.rm is, low, high, is_not_zero (length b.bqual) is.bqual.some) refl

branches_again : (bs : List BranchParts) (least : ℕ) (rest : List ℕ) → AllByRecursion IsBranch bs → IsFrom least (rm_numbers bs)
    → IsStrictlyIncreasing (rm_numbers bs) → after_branches least (length bs) (flat_map (branch_spelling version_2) bs ++ rest) ≡ Some rest
unfolding after_branches
branches_again [] least rest each from up = refl
branches_again (b ∷ bs) least rest each from up =
    let after : List ℕ = flat_map (branch_spelling version_2) bs ++ rest in
    let regrouped : flat_map (branch_spelling version_2) (b ∷ bs) ++ rest ≡ branch_spelling version_2 b ++ after =
    ap (λ (ys : List ℕ). ys ++ rest) (flat_map-cons (branch_spelling version_2) b bs)
    ∙ append_assoc (branch_spelling version_2 b) (flat_map (branch_spelling version_2) bs) rest in
    let others = branches_again bs (b.rm + 1) rest each.1 (from_next b.rm (rm_numbers bs) up) (tail_up b.rm (rm_numbers bs) up) in
    ap (after_branches least (suc (length bs))) regrouped ∙ rw (manager_again least b after each.0 from) others

-- ---- a transaction

-- a transaction that was passed over
pub record Ends (bytes rest : List ℕ) : Type 0 where
  pub tx : TxParts
  pub read : tx_in version_2 bytes ≡ Some (tx, rest)
  pub is : IsTx tx
  pub front : bytes ≡ tx_spelling version_2 tx ++ rest

All_of : {X : Type 0} (P : X → Type 0) (xs : List X) → AllByRecursion P xs → All P xs
All_of P [] each k d lt = absurd (omega arith)
All_of P (x ∷ xs) each zero d lt = each.0
All_of P (x ∷ xs) each (suc k) d lt = All_of P xs each.1 k d (omega arith)

tx_read : (bytes rest : List ℕ) (format count : ℕ × List ℕ) (gtrid : List ℕ × List ℕ) (bs : List BranchParts)
    → number_at bytes ≡ Some format
    → component_at format.1 ≡ Some gtrid → byte_at gtrid.1 ≡ Some count → ltb most_branches count.0 ≡ false
    → branches_at version_2 count.0 count.1 ≡ Some (bs, rest)
    → tx_at version_2 bytes ≡ Some (record { format = format.0; gtrid = gtrid.0; branches = bs }, rest)
unfolding tx_at
tx_read bytes rest format count gtrid bs ef eg ec few eb = rw (ef, eg, ec, few, eb) refl

-- where a transaction is at the front, it ends in front of the rest
pub ends : (bytes rest : List ℕ) → IsBytes bytes → after_tx bytes ≡ Some rest → Ends bytes rest
unfolding after_tx
ends bytes rest is e =
    step (number_at bytes) _ e (λ format ef e.
    let fits = unless (leb formats format.0) _ rest e in
    step (component_at format.1) _ fits.1 (λ gtrid eg e.
    let some = unless (eqb (length gtrid.0) 0) _ rest e in
    step (byte_at gtrid.1) _ some.1 (λ count ec e.
    let any = unless (eqb count.0 0) _ rest e in
    let few = unless (ltb most_branches count.0) _ rest any.1 in
    let one = number_spelled bytes format is ef in
    let two = component_spelled format.1 gtrid one.after eg in
    let three = byte_spelled gtrid.1 count two.after ec in
    let all = found count.0 0 count.1 rest three.after few.1 in
    let tx : TxParts = record { format = format.0; gtrid = gtrid.0; branches = all.branches } in
    let read : tx_at version_2 bytes ≡ Some (tx, rest) =
    tx_read bytes rest format count gtrid all.branches ef eg ec few.0 all.read in
    let gtrid-bytes : IsBytes gtrid.0 = bytes_front gtrid.0 gtrid.1 (λ i. subst IsBytes two.same one.after (suc i)) in
    let count-some : 0 < count.0 = not_zero count.0 any.0 in
    let count-few : count.0 ≤ most_branches = ltb-false most_branches count.0 few.0 in
    let valid : IsTx tx = record {
      format = grind (arith, nat_tests, fits.0);
      gtrid = record { some = not_zero (length gtrid.0) some.0; few = component_few format.1 gtrid eg; bytes = gtrid-bytes };
      branches = record {
        some = omega (arith, all.counted, count-some);
        few = omega (arith, all.counted, count-few);
        each = All_of IsBranch all.branches all.each;
        ascending = all.ascending;
      };
    } in
    let front = spelled_front bytes (tx, rest) is read in
    record { tx = tx; read = ap (tx_in version_2) front ∙ in_again Second tx rest (in_version_2 valid); is = valid; front = front })))
  where
    spelled_front : (bytes : List ℕ) (x : TxParts × List ℕ) → IsBytes bytes → tx_at version_2 bytes ≡ Some x
        → bytes ≡ tx_spelling version_2 x.0 ++ x.1
    spelled_front bytes x is e = (spelled.tx_spelled Second bytes x is e).same

pub again : (tx : TxParts) (rest : List ℕ) → IsTx tx → after_tx (tx_spelling version_2 tx ++ rest) ≡ Some rest
unfolding after_tx
again tx rest is =
    let after : List ℕ = branches_spelling version_2 tx.branches ++ rest in
    let regrouped : tx_spelling version_2 tx ++ rest ≡ number_spelling tx.format ++ (component_spelling tx.gtrid ++ after) =
    ap (λ (x : List ℕ). number_spelling tx.format ++ (length tx.gtrid ∷ x))
    (append_assoc tx.gtrid (branches_spelling version_2 tx.branches) rest) in
    let fits : leb formats tx.format ≡ false = grind (arith, nat_tests, is.format) in
    let few : ltb most_branches (length tx.branches) ≡ false = le-ltb _ _ is.branches.few in
    let format = number_again tx.format (component_spelling tx.gtrid ++ after) (omega (arith, is.format)) in
    let gtrid = component_again tx.gtrid after is.gtrid.few in
    let each = recursion_from_All IsBranch tx.branches is.branches.each in
    let branches = branches_again tx.branches 0 rest each (from_zero (rm_numbers tx.branches)) is.branches.ascending in
    ap after_tx regrouped
    ∙ rw (format, fits, gtrid, is_not_zero (length tx.gtrid) is.gtrid.some, is_not_zero (length tx.branches) is.branches.some, few) branches

-- where nothing was passed over, no transaction stands
pub none : (bytes : List ℕ) → IsBytes bytes → after_tx bytes ≡ None → tx_in version_2 bytes ≡ None
none bytes is e = by (tx_in version_2 bytes) refl
  where
    by : (read : Option (TxParts × List ℕ)) → tx_in version_2 bytes ≡ read → tx_in version_2 bytes ≡ None
    by None er = er
    by (Some x) er =
        let in-it = in_spelled Second bytes x is er in
        let passed : after_tx bytes ≡ Some x.1 = ap after_tx in-it.1.same ∙ again x.0 x.1 in-it.0.valid in
        absurd (cc (passed, e))

-- ---- as the loop goes

module _ (least count i : ℕ) (bytes : List ℕ) where
  -- a branch that was passed over leads on to those behind it
  pub goes : (rm : ℕ) (after : List ℕ) → i < count → Some (rm, after) ≡ manager_at least bytes
      → after_branches least (count - i) bytes ≡ after_branches (rm + 1) (count - (i + 1)) after
  unfolding after_branches
  goes rm after lt e = let k : count - i ≡ suc (count - (i + 1)) = omega arith in rw (k, sym e) refl

  -- where there is none, nothing is passed over
  pub stops : i < count → None ≡ manager_at least bytes → after_branches least (count - i) bytes ≡ None
  unfolding after_branches
  stops lt e = let k : count - i ≡ suc (count - (i + 1)) = omega arith in rw (k, sym e) refl

  -- where all were passed over, the rest is what is left
  pub is_done : count ≤ i → after_branches least (count - i) bytes ≡ Some bytes
  unfolding after_branches
  is_done le = let k : count - i ≡ 0 = omega arith in rw k refl

-- the bytes of a transaction that was passed over
pub cut : (bytes rest : List ℕ) (e : Ends bytes rest) → take (length bytes - length rest) bytes ≡ tx_spelling version_2 e.tx
cut bytes rest e =
    let len : length bytes ≡ length (tx_spelling version_2 e.tx) + length rest = ap length e.front ∙ length-append
    (tx_spelling version_2 e.tx) rest in
    let n : length (tx_spelling version_2 e.tx) ≡ length bytes - length rest = omega (arith, len) in
    ap (take (length bytes - length rest)) e.front ∙ take_at (tx_spelling version_2 e.tx) rest (length bytes - length rest) n
