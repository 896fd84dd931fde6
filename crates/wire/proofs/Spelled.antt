-- What is taken was spelled: each field from the front of bytes.
-- Needed by `view_of`; 11 files here; 7 crates above.
use Rattle.std.proofs.Common.{◌≡◌, ℕ, zero, suc, ◌/◌, ◌%◌, ◌≤◌, Bool, true, false, cond, eqb, ltb, List, [], ◌∷◌, ◌++◌}
use Rattle.std.proofs.Common.{length, take, drop, Option, Some, None, refl, sym, subst, ap, ◌∙◌, append_assoc, arith, eqb-true}
use Rattle.std.specs.List.{flat_map}
use Rattle.std.proofs.lemmas.Bool.{ltb-false}
use Rattle.std.proofs.lemmas.Bool.Decides.{nat_tests}
use Rattle.std.proofs.lemmas.List.{take-append-drop, length-take}
use Rattle.std.proofs.lemmas.List.Concat.{flat_map-cons}
use Rattle.byteorder.specs.Endian.{big_number, big_bytes}
use Rattle.xid.specs.Names.{IsBytes}
use Rattle.xid.specs.Limits.{most_component, most_branches}
use Rattle.xid.specs.Transactions.{TxParts, BranchParts}
use Rattle.xid.specs.declared.transaction.Vote.{Vote}
use Rattle.xid.specs.declared.transaction.Vote.TheVariants.{Prepared, Aborted}
use Rattle.wire.specs.declared.items.InstanceReport.{InstanceReport}
use Rattle.wire.specs.declared.items.InstanceAccept.{InstanceAccept}
use Rattle.wire.specs.Versions.{version_2, version_of}
use Rattle.wire.specs.declared.grammar.VersionNumber.{VersionNumber}
use Rattle.wire.specs.declared.grammar.VersionNumber.TheVariants.{First, Second}
use Rattle.wire.specs.Grammar.{number_spelling, rm_spelling, component_spelling, branch_spelling, branches_spelling, tx_spelling, vote_byte}
use Rattle.wire.specs.Grammar.{report_spelling, report_item_spelling, accept_item_spelling}
use Rattle.wire.specs.Reading.{◌>>=◌, byte_at, big_at, number_at, rm_at, component_at, branch_at, branches_at, tx_at, vote_at, report_at}
use Rattle.wire.specs.Reading.{instance_at, report_item_at, accept_item_at, list_at, items_at}

-- bytes are these in front and those after them, which are bytes
pub record Front (bytes front rest : List ℕ) : Type 0 where
  pub same : bytes ≡ front ++ rest
  pub after : IsBytes rest

-- what stands behind bytes are bytes
pub bytes_after : (front rest : List ℕ) → IsBytes (front ++ rest) → IsBytes rest
bytes_after [] rest is = is
bytes_after (x ∷ front) rest is = bytes_after front rest (λ i. is (suc i))

-- so a front and what stands behind it
pub front_of : (bytes front rest : List ℕ) → IsBytes bytes → bytes ≡ front ++ rest → Front bytes front rest
front_of bytes front rest is e = record { same = e; after = bytes_after front rest (subst IsBytes e is) }

-- one field after another
pub joined : (bytes first middle second rest : List ℕ) → Front bytes first middle → Front middle second rest
    → Front bytes (first ++ second) rest
joined bytes first middle second rest f g = record {
  same = f.same ∙ ap (λ (xs : List ℕ). first ++ xs) g.same ∙ sym (append_assoc first second rest);
  after = g.after;
}

-- what there is, is the same
pub some_same : {X : Type 0} (x y : X) → Some x ≡ Some y → x ≡ y
some_same x y e = cc

-- a step of a reading gave something
pub step : {A B P : Type 0} {y : B} (read : Option A) (f : A → Option B) → (read >>= f) ≡ Some y
    → ((x : A) → read ≡ Some x → f x ≡ Some y → P) → P
step None f e go = absurd (cc)
step (Some x) f e go = go x refl e

-- a test that ends a reading was false
pub unless : {X : Type 0} (t : Bool) (read : Option X) (x : X) → cond t None read ≡ Some x → (t ≡ false) × (read ≡ Some x)
unless true read x e = absurd (cc)
unless false read x e = (refl, e)

one_byte : (bytes : List ℕ) → IsBytes bytes → 1 ≤ length bytes → bytes ≡ big_bytes 1 (big_number 1 bytes) ++ drop 1 bytes
one_byte [] is le = absurd (omega arith)
one_byte (a ∷ rest) is le =
    let n : ℕ = big_number 1 (a ∷ rest) in
    let low : n % 256 ≡ a = omega (arith, is 0) in
    λ i. sym low i ∷ rest

-- two bytes are those of their number
pub two : (bytes : List ℕ) → IsBytes bytes → 2 ≤ length bytes → bytes ≡ big_bytes 2 (big_number 2 bytes) ++ drop 2 bytes
two [] is le = absurd (omega arith)
two (a ∷ []) is le = absurd (omega arith)
two (a ∷ b ∷ rest) is le =
    let n : ℕ = big_number 2 (a ∷ b ∷ rest) in
    let high : n / 256 % 256 ≡ a = omega (arith, is 0, is 1) in
    let low : n % 256 ≡ b = omega (arith, is 0, is 1) in
    λ i. sym high i ∷ sym low i ∷ rest

four : (bytes : List ℕ) → IsBytes bytes → 4 ≤ length bytes → bytes ≡ big_bytes 4 (big_number 4 bytes) ++ drop 4 bytes
four [] is le = absurd (omega arith)
four (a ∷ []) is le = absurd (omega arith)
four (a ∷ b ∷ []) is le = absurd (omega arith)
four (a ∷ b ∷ c ∷ []) is le = absurd (omega arith)
four (a ∷ b ∷ c ∷ d ∷ rest) is le =
    let n : ℕ = big_number 4 (a ∷ b ∷ c ∷ d ∷ rest) in
    let first : n / 16777216 % 256 ≡ a = omega (arith, is 0, is 1, is 2, is 3) in
    let second : n / 65536 % 256 ≡ b = omega (arith, is 0, is 1, is 2, is 3) in
    let third : n / 256 % 256 ≡ c = omega (arith, is 0, is 1, is 2, is 3) in
    let last : n % 256 ≡ d = omega (arith, is 0, is 1, is 2, is 3) in
    λ i. sym first i ∷ sym second i ∷ sym third i ∷ sym last i ∷ rest

-- a byte that was taken was spelled
pub byte_spelled : (bytes : List ℕ) (x : ℕ × List ℕ) → IsBytes bytes → byte_at bytes ≡ Some x → Front bytes (x.0 ∷ []) x.1
byte_spelled [] x is e = absurd (cc)
byte_spelled (b ∷ rest) x is e =
    subst (λ (x : ℕ × List ℕ). Front (b ∷ rest) (x.0 ∷ []) x.1) (some_same (b, rest) x e) (front_of (b ∷ rest) (b ∷ []) rest is refl)

-- a number of so many bytes, which spell it again
big_spelled : (width : ℕ) → ((bytes : List ℕ) → IsBytes bytes → width ≤ length bytes
    → bytes ≡ big_bytes width (big_number width bytes) ++ drop width bytes)
    → (bytes : List ℕ) (x : ℕ × List ℕ) → IsBytes bytes → big_at width bytes ≡ Some x → Front bytes (big_bytes width x.0) x.1
big_spelled width whole bytes x is e =
    let t = unless (ltb (length bytes) width) (Some (big_number width bytes, drop width bytes)) x e in
    let long : width ≤ length bytes = ltb-false (length bytes) width t.0 in
    subst (λ (x : ℕ × List ℕ). Front bytes (big_bytes width x.0) x.1) (some_same (big_number width bytes, drop width bytes) x t.1)
    (front_of bytes (big_bytes width (big_number width bytes)) (drop width bytes) is (whole bytes is long))

-- a number
pub number_spelled : (bytes : List ℕ) (x : ℕ × List ℕ) → IsBytes bytes → number_at bytes ≡ Some x → Front bytes (number_spelling x.0) x.1
number_spelled bytes x is e = big_spelled 4 four bytes x is e

-- a number of two bytes
pub short_spelled : (bytes : List ℕ) (x : ℕ × List ℕ) → IsBytes bytes → big_at 2 bytes ≡ Some x → Front bytes (big_bytes 2 x.0) x.1
short_spelled bytes x is e = big_spelled 2 two bytes x is e

-- the number of a resource manager, in each version
pub rm_spelled : (v : VersionNumber) (bytes : List ℕ) (x : ℕ × List ℕ) → IsBytes bytes → rm_at (version_of v) bytes ≡ Some x
    → Front bytes (rm_spelling (version_of v) x.0) x.1
rm_spelled First bytes x is e = big_spelled 1 one_byte bytes x is e
rm_spelled Second bytes x is e = short_spelled bytes x is e

-- a part of a name
pub component_spelled : (bytes : List ℕ) (x : List ℕ × List ℕ) → IsBytes bytes → component_at bytes ≡ Some x
    → Front bytes (component_spelling x.0) x.1
unfolding component_at
component_spelled [] x is e = absurd (cc)
component_spelled (n ∷ rest) x is e =
    let few = unless (ltb most_component n) (cond (ltb (length rest) n) None (Some (take n rest, drop n rest))) x e in
    let long = unless (ltb (length rest) n) (Some (take n rest, drop n rest)) x few.1 in
    let le : n ≤ length rest = grind (arith, nat_tests, long.0) in
    let len : length (take n rest) ≡ n = omega (arith, length-take n rest, le) in
    let same : n ∷ rest ≡ component_spelling (take n rest) ++ drop n rest = λ i. sym len i ∷ sym (take-append-drop n rest) i in
    subst (λ (x : List ℕ × List ℕ). Front (n ∷ rest) (component_spelling x.0) x.1) (some_same (take n rest, drop n rest) x long.1)
    (front_of (n ∷ rest) (component_spelling (take n rest)) (drop n rest) is same)

-- a branch
pub branch_spelled : (v : VersionNumber) (bytes : List ℕ) (x : BranchParts × List ℕ) → IsBytes bytes
    → branch_at (version_of v) bytes ≡ Some x
    → Front bytes (branch_spelling (version_of v) x.0) x.1
unfolding branch_at
branch_spelled v bytes x is e =
    step (rm_at (version_of v) bytes) _ e (λ rm er e. step (component_at rm.1) _ e (λ bqual eb e.
    let first = rm_spelled v bytes rm is er in
    let second = component_spelled rm.1 bqual first.after eb in
    let branch : BranchParts = record { rm = rm.0; bqual = bqual.0 } in
    subst (λ (x : BranchParts × List ℕ). Front bytes (branch_spelling (version_of v) x.0) x.1) (some_same (branch, bqual.1) x e)
    (joined bytes (rm_spelling (version_of v) rm.0) rm.1 (component_spelling bqual.0) bqual.1 first second)))

-- values one after the other, as many as were asked for
pub record List_front {X : Type 0} (spell : X → List ℕ) (count : ℕ) (bytes : List ℕ) (x : List X × List ℕ) : Type 0 where
  pub front : Front bytes (flat_map spell x.0) x.1
  pub counted : length x.0 ≡ count

-- as many values as were taken, where each was spelled
pub list_spelled : {X : Type 0} (one : List ℕ → Option (X × List ℕ)) (spell : X → List ℕ)
    → ((bytes : List ℕ) (x : X × List ℕ) → IsBytes bytes → one bytes ≡ Some x → Front bytes (spell x.0) x.1)
    → (n : ℕ) (bytes : List ℕ) (x : List X × List ℕ) → IsBytes bytes → list_at one n bytes ≡ Some x → List_front spell n bytes x
unfolding list_at
list_spelled {X} one spell was zero bytes x is e =
    subst (λ (x : List X × List ℕ). List_front spell 0 bytes x) (some_same ([], bytes) x e)
    (record { front = front_of bytes [] bytes is refl; counted = refl })
list_spelled {X} one spell was (suc n) bytes x is e =
    step (one bytes) _ e (λ first ef e. step (list_at one n first.1) _ e (λ others eo e.
    let front = was bytes first is ef in
    let later = list_spelled one spell was n first.1 others front.after eo in
    let whole = joined bytes (spell first.0) first.1 (flat_map spell others.0) others.1 front later.front in
    let spelled : spell first.0 ++ flat_map spell others.0 ≡ flat_map spell (first.0 ∷ others.0) =
    sym (flat_map-cons spell first.0 others.0) in
    subst (λ (x : List X × List ℕ). List_front spell (suc n) bytes x) (some_same (first.0 ∷ others.0, others.1) x e)
    (record { front = subst (λ (xs : List ℕ). Front bytes xs others.1) spelled whole; counted = ap suc later.counted })))

-- a transaction
pub tx_spelled : (v : VersionNumber) (bytes : List ℕ) (x : TxParts × List ℕ) → IsBytes bytes → tx_at (version_of v) bytes ≡ Some x
    → Front bytes (tx_spelling (version_of v) x.0) x.1
unfolding tx_at
tx_spelled v bytes x is e =
    step (number_at bytes) _ e (λ format ef e. step (component_at format.1) _ e (λ gtrid eg e. step (byte_at gtrid.1) _ e (λ count ec e.
    let few = unless (ltb (version_of v).most_branches count.0) _ x e in
    step (branches_at (version_of v) count.0 count.1) _ few.1 (λ branches eb e.
    let one = number_spelled bytes format is ef in
    let two = component_spelled format.1 gtrid one.after eg in
    let three = byte_spelled gtrid.1 count two.after ec in
    let four = list_spelled (branch_at (version_of v)) (branch_spelling (version_of v)) (branch_spelled v) count.0 count.1 branches
    three.after eb in
    let tx : TxParts = record { format = format.0; gtrid = gtrid.0; branches = branches.0 } in
    let all = joined gtrid.1 (count.0 ∷ []) count.1 (flat_map (branch_spelling (version_of v)) branches.0) branches.1 three four.front in
    let counted =
    subst (λ (n : ℕ). Front gtrid.1 (n ∷ flat_map (branch_spelling (version_of v)) branches.0) branches.1) (sym four.counted) all in
    let named = joined format.1 (component_spelling gtrid.0) gtrid.1 (branches_spelling (version_of v) branches.0) branches.1 two counted in
    subst (λ (x : TxParts × List ℕ). Front bytes (tx_spelling (version_of v) x.0) x.1) (some_same (tx, branches.1) x e)
    (joined bytes (number_spelling format.0) format.1 (component_spelling gtrid.0 ++ branches_spelling (version_of v) branches.0) branches.1
    one named)))))

-- a vote
pub vote_spelled : (bytes : List ℕ) (x : Vote × List ℕ) → IsBytes bytes → vote_at bytes ≡ Some x → Front bytes (vote_byte x.0 ∷ []) x.1
unfolding vote_at
vote_spelled [] x is e = absurd (cc)
vote_spelled (v ∷ rest) x is e = by (eqb v 1) (eqb v 2) (eqb-true v 1) (eqb-true v 2) e
  where
    by : (one two : Bool) → (one ≡ true → v ≡ 1) → (two ≡ true → v ≡ 2)
        → cond one (Some (Prepared, rest)) (cond two (Some (Aborted, rest)) None) ≡ Some x → Front (v ∷ rest) (vote_byte x.0 ∷ []) x.1
    by true two one-is two-is e =
        subst (λ (x : Vote × List ℕ). Front (v ∷ rest) (vote_byte x.0 ∷ []) x.1) (some_same (Prepared, rest) x e)
        (front_of (v ∷ rest) (1 ∷ []) rest is (ap (λ (n : ℕ). n ∷ rest) (one-is refl)))
    by false true one-is two-is e =
        subst (λ (x : Vote × List ℕ). Front (v ∷ rest) (vote_byte x.0 ∷ []) x.1) (some_same (Aborted, rest) x e)
        (front_of (v ∷ rest) (2 ∷ []) rest is (ap (λ (n : ℕ). n ∷ rest) (two-is refl)))
    by false false one-is two-is e = absurd (cc)

-- a report
pub report_spelled : (bytes : List ℕ) (x : Option (ℕ × Vote) × List ℕ) → IsBytes bytes → report_at bytes ≡ Some x
    → Front bytes (report_spelling x.0) x.1
unfolding report_at
report_spelled bytes x is e =
    step (number_at bytes) _ e (λ ballot eb e. step (byte_at ballot.1) _ e (λ v ev e.
    let one = number_spelled bytes ballot is eb in
    let two = byte_spelled ballot.1 v one.after ev in
    by ballot v (eqb v.0 0) (eqb ballot.0 0) (eqb-true v.0 0) (eqb-true ballot.0 0) one two e))
  where
    by : (ballot v : ℕ × List ℕ) (no_vote no_ballot : Bool) → (no_vote ≡ true → v.0 ≡ 0) → (no_ballot ≡ true → ballot.0 ≡ 0)
        → Front bytes (number_spelling ballot.0) ballot.1 → Front ballot.1 (v.0 ∷ []) v.1
        → cond no_vote (cond no_ballot (Some (None, v.1)) None) (vote_at ballot.1 >>= λ vote. Some (Some (ballot.0, vote.0), vote.1)) ≡ Some
        x
        → Front bytes (report_spelling x.0) x.1
    by ballot v true true no-vote no-ballot one two e =
        let front = joined bytes (number_spelling ballot.0) ballot.1 (v.0 ∷ []) v.1 one two in
        let zeros : number_spelling ballot.0 ++ v.0 ∷ [] ≡ number_spelling 0 ++ 0 ∷ [] = rw (no-ballot refl, no-vote refl) refl in
        subst (λ (x : Option (ℕ × Vote) × List ℕ). Front bytes (report_spelling x.0) x.1) (some_same (None, v.1) x e)
        (subst (λ (xs : List ℕ). Front bytes xs v.1) zeros front)
    by ballot v true false no-vote no-ballot one two e = absurd (cc)
    by ballot v false no_ballot no-vote no-ballot one two e =
        step (vote_at ballot.1) _ e (λ vote ev e.
        let last = vote_spelled ballot.1 vote one.after ev in
        subst (λ (x : Option (ℕ × Vote) × List ℕ). Front bytes (report_spelling x.0) x.1) (some_same (Some (ballot.0, vote.0), vote.1) x e)
        (joined bytes (number_spelling ballot.0) ballot.1 (vote_byte vote.0 ∷ []) vote.1 one last))

-- an instance and the number behind it
pub instance_spelled : (bytes : List ℕ) (x : ℕ × ℕ × List ℕ) → IsBytes bytes → instance_at version_2 bytes ≡ Some x
    → Front bytes (rm_spelling version_2 x.0 ++ number_spelling x.1) x.2
unfolding instance_at
instance_spelled bytes x is e =
    step (rm_at version_2 bytes) _ e (λ rm er e. step (number_at rm.1) _ e (λ ballot eb e.
    let one = rm_spelled Second bytes rm is er in
    let two = number_spelled rm.1 ballot one.after eb in
    subst (λ (x : ℕ × ℕ × List ℕ). Front bytes (rm_spelling version_2 x.0 ++ number_spelling x.1) x.2)
    (some_same (rm.0, ballot.0, ballot.1) x e)
    (joined bytes (rm_spelling version_2 rm.0) rm.1 (number_spelling ballot.0) ballot.1 one two)))

-- an item of a bundle of phase 1b
pub report_item_spelled : (bytes : List ℕ) (x : InstanceReport × List ℕ) → IsBytes bytes → report_item_at bytes ≡ Some x
    → Front bytes (report_item_spelling version_2 x.0) x.1
unfolding report_item_at
report_item_spelled bytes x is e =
    step (rm_at version_2 bytes) _ e (λ rm er e. step (report_at rm.1) _ e (λ report et e.
    let one = rm_spelled Second bytes rm is er in
    let two = report_spelled rm.1 report one.after et in
    let item : InstanceReport = record { instance = rm.0; report = report.0 } in
    subst (λ (x : InstanceReport × List ℕ). Front bytes (report_item_spelling version_2 x.0) x.1) (some_same (item, report.1) x e)
    (joined bytes (rm_spelling version_2 rm.0) rm.1 (report_spelling report.0) report.1 one two)))

-- an item of a bundle of phase 2b
pub accept_item_spelled : (bytes : List ℕ) (x : InstanceAccept × List ℕ) → IsBytes bytes → accept_item_at bytes ≡ Some x
    → Front bytes (accept_item_spelling version_2 x.0) x.1
unfolding accept_item_at
accept_item_spelled bytes x is e =
    step (instance_at version_2 bytes) _ e (λ i ei e. step (vote_at i.2) _ e (λ vote ev e.
    let one = instance_spelled bytes i is ei in
    let two = vote_spelled i.2 vote one.after ev in
    let item : InstanceAccept = record { instance = i.0; ballot = i.1; vote = vote.0 } in
    subst (λ (x : InstanceAccept × List ℕ). Front bytes (accept_item_spelling version_2 x.0) x.1) (some_same (item, vote.1) x e)
    (joined bytes (rm_spelling version_2 i.0 ++ number_spelling i.1) i.2 (vote_byte vote.0 ∷ []) vote.1 one two)))

-- the items of a bundle, behind their count
pub items_spelled : {X : Type 0} (one : List ℕ → Option (X × List ℕ)) (spell : X → List ℕ)
    → ((bytes : List ℕ) (x : X × List ℕ) → IsBytes bytes → one bytes ≡ Some x → Front bytes (spell x.0) x.1)
    → (bytes : List ℕ) (x : List X × List ℕ) → IsBytes bytes → items_at one bytes ≡ Some x
    → Front bytes (length x.0 ∷ flat_map spell x.0) x.1
unfolding items_at
items_spelled {X} one spell was bytes x is e =
    step (byte_at bytes) _ e (λ count ec e.
    let some = unless (eqb count.0 0) _ x e in
    let few = unless (ltb most_branches count.0) _ x some.1 in
    let first = byte_spelled bytes count is ec in
    let all = list_spelled one spell was count.0 count.1 x first.after few.1 in
    let front = joined bytes (count.0 ∷ []) count.1 (flat_map spell x.0) x.1 first all.front in
    subst (λ (n : ℕ). Front bytes (n ∷ flat_map spell x.0) x.1) (sym all.counted) front)
