-- How long entries are: what a frame's length is, and that no body is longer than one may be.
-- Needed by `Entry::write` and `frame_length_is_exact`; Floors, Framed and Written; 4 crates above.
use Rattle.std.proofs.Common.{◌≡◌, ◌∙◌, ℕ, suc, ◌+◌, ◌*◌, ◌≤◌, List, [], ◌∷◌, ◌++◌, length, map, sum, refl, ap, arith}
use Rattle.std.specs.List.{flat_map, All, AllByRecursion}
use Rattle.std.proofs.lemmas.List.{length-append}
use Rattle.std.proofs.lemmas.List.Concat.{flat_map-cons}
use Rattle.std.proofs.lemmas.List.Sums.{sum_by-cons}
use Rattle.byteorder.specs.Endian.{big_bytes}
use Rattle.byteorder.specs.Numbers.{length-bytes_high_first}
use Rattle.xid.specs.Transactions.{TxParts, BranchParts, IsBranch, IsTx}
use Rattle.wire.specs.Versions.{Version, version_2, version_of}
use Rattle.wire.specs.declared.grammar.VersionNumber.{VersionNumber}
use Rattle.wire.specs.declared.grammar.VersionNumber.TheVariants.{First, Second}
use Rattle.wire.specs.Grammar.{number_spelling, rm_spelling, component_spelling, branch_spelling, branches_spelling, tx_spelling, vote_byte}
use Rattle.wire.proofs.Fields.{in_version_2}
use Rattle.stable_record.specs.declared.fact.Act.{Act}
use Rattle.stable_record.specs.declared.fact.Act.TheVariants.{Read, Del}
use Rattle.stable_record.specs.declared.fact.Touched.{Touched}
use Rattle.stable_record.specs.declared.fact.FactKind.{FactKind as Fact}
use Rattle.stable_record.specs.declared.fact.FactKind.TheVariants.{Promise, Accept, Ballot, VotePrepared, VoteAborted}
use Rattle.stable_record.specs.declared.fact.FactKind.TheVariants.{Committed, Aborted, PromiseAll}
use Rattle.stable_record.specs.declared.entry.EntryKind.{EntryKind as Entry}
use Rattle.stable_record.specs.declared.entry.EntryKind.TheVariants.{Snapshot, Row, PastCommitted, PastAborted}
use Rattle.stable_record.specs.Facts.{IsFact, IsAct, IsTouched, fact_tx}
use Rattle.stable_record.specs.Frames.{act_length, touched_length, rest_length, frame_length, frame_length_in}
use Rattle.stable_record.specs.Entries.{IsEntry, IsEntryIn, IsNamedIn, IsInstanceIn}
use Rattle.stable_record.specs.Grammar.{most_body, value_spelling, act_spelling, touched_spelling, rest_spelling, fields_spelling}
use Rattle.stable_record.specs.Grammar.{body_spelling, frame}

pub number_has_4 : (n : ℕ) → length (number_spelling n) ≡ 4
number_has_4 n = length-bytes_high_first 4 n

value_has : (value : List ℕ) → length (value_spelling value) ≡ 2 + length value
value_has value = omega (arith, length-append (big_bytes 2 (length value)) value, length-bytes_high_first 2 (length value))

act_has : (act : Act) → length (act_spelling act) ≡ 1 + act_length act
act_has Read = refl
act_has (Act.Put value) = omega (arith, value_has value)
act_has Del = refl

touched_has : (touched : Touched) → length (touched_spelling touched) ≡ touched_length touched
touched_has touched = omega (arith, length-append (component_spelling touched.key) (act_spelling touched.act), act_has touched.act)

keys_have : (keys : List Touched) → length (flat_map touched_spelling keys) ≡ sum (map touched_length keys)
keys_have [] = refl
keys_have (first ∷ rest) =
    let e : length (flat_map touched_spelling (first ∷ rest)) ≡ length (touched_spelling first ++ flat_map touched_spelling rest) =
    ap length (flat_map-cons touched_spelling first rest) in
    let all : sum (map touched_length (first ∷ rest)) ≡ touched_length first + sum (map touched_length rest) =
    sum_by-cons (λ (n : ℕ). n) (touched_length first) (map touched_length rest) in
    omega (arith, e, all, length-append (touched_spelling first) (flat_map touched_spelling rest), touched_has first, keys_have rest)

rm_has : (v : Version) (rm : ℕ) → length (rm_spelling v rm) ≡ v.rm_width
rm_has v rm = length-bytes_high_first v.rm_width rm

rest_has : (v : Version) (f : Fact) → length (rest_spelling v f) ≡ rest_length v f
rest_has v (Promise tx rm ballot) =
    omega (arith, length-append (rm_spelling v rm) (number_spelling ballot), rm_has v rm, number_has_4 ballot)
rest_has v (Accept tx rm ballot vote) =
    omega (
      arith,
      length-append (rm_spelling v rm) (number_spelling ballot ++ vote_byte vote ∷ []),
      rm_has v rm,
      length-append (number_spelling ballot) (vote_byte vote ∷ []),
      number_has_4 ballot,
    )
rest_has v (Ballot tx ballot) = number_has_4 ballot
rest_has v (VotePrepared tx keys) = let e = keys_have keys in omega (arith, e)
rest_has v (VoteAborted tx) = refl
rest_has v (Committed tx) = refl
rest_has v (Aborted tx) = refl
rest_has v (PromiseAll tx ballot) = number_has_4 ballot

-- a frame is its body and four bytes
pub frame_has : (v : Version) (e : Entry) → length (frame v e) ≡ 4 + length (body_spelling v e)
frame_has v e =
    omega (
      arith,
      length-append (number_spelling (length (body_spelling v e))) (body_spelling v e),
      number_has_4
          (length (body_spelling v e)),
    )

-- the length of a fact's frame, counted field by field
pub fact_frame_has : (v : Version) (f : Fact) → length (frame v (Entry.Fact f)) ≡ frame_length_in v f
fact_frame_has v f =
    omega (arith, frame_has v (Entry.Fact f), length-append (tx_spelling v (fact_tx f)) (rest_spelling v f), rest_has v f)

branch_few : (v : VersionNumber) (b : BranchParts) → IsBranch b → length (branch_spelling (version_of v) b) ≤ 67
branch_few First b is =
    omega (
      arith,
      length-append (rm_spelling (version_of First) b.rm) (component_spelling b.bqual),
      rm_has (version_of First) b.rm,
      is.bqual.few,
    )
branch_few Second b is =
    omega (
      arith,
      length-append (rm_spelling (version_of Second) b.rm) (component_spelling b.bqual),
      rm_has (version_of Second) b.rm,
      is.bqual.few,
    )

branches_few : (v : VersionNumber) (bs : List BranchParts) → All IsBranch bs
    → length (flat_map (branch_spelling (version_of v)) bs) ≤ 67 * length bs
branches_few v [] each = omega arith
branches_few v (b ∷ bs) each =
    let spell = branch_spelling (version_of v) in
    let e : length (flat_map spell (b ∷ bs)) ≡ length (spell b ++ flat_map spell bs) = ap length (flat_map-cons spell b bs) in
    let first = branch_few v b (each 0 b (omega arith)) in
    let others = branches_few v bs (λ k d lt. each (suc k) d (omega arith)) in
    omega (arith, e, length-append (spell b) (flat_map spell bs), first, others)

tx_few : (v : VersionNumber) (tx : TxParts) → IsTx tx → length (tx_spelling (version_of v) tx) ≤ 1142
tx_few v tx is =
    let V = version_of v in
    let all = branches_few v tx.branches is.branches.each in
    omega (
      arith,
      length-append (number_spelling tx.format) (component_spelling tx.gtrid ++ branches_spelling V tx.branches),
      number_has_4 tx.format,
      length-append (component_spelling tx.gtrid) (branches_spelling V tx.branches),
      is.gtrid.few,
      is.branches.few,
      all,
    )

act_few : (act : Act) → IsAct act → act_length act ≤ 258
act_few Read is = omega arith
act_few (Act.Put value) is = omega (arith, is.few)
act_few Del is = omega arith

keys_few : (keys : List Touched) → AllByRecursion IsTouched keys → sum (map touched_length keys) ≤ 324 * length keys
keys_few [] each = omega arith
keys_few (first ∷ rest) each =
    let all : sum (map touched_length (first ∷ rest)) ≡ touched_length first + sum (map touched_length rest) =
    sum_by-cons (λ (n : ℕ). n) (touched_length first) (map touched_length rest) in
    omega (arith, all, each.0.key.few, act_few first.act each.0.act, keys_few rest each.1)

rest_few : (v : VersionNumber) (f : Fact) → IsFact f → rest_length (version_of v) f ≤ 20737
rest_few First (Promise tx rm ballot) is = omega arith
rest_few Second (Promise tx rm ballot) is = omega arith
rest_few First (Accept tx rm ballot vote) is = omega arith
rest_few Second (Accept tx rm ballot vote) is = omega arith
rest_few v (Ballot tx ballot) is = omega arith
rest_few v (VotePrepared tx keys) is = omega (arith, keys_few keys is.1.each, is.1.few)
rest_few v (VoteAborted tx) is = omega arith
rest_few v (Committed tx) is = omega arith
rest_few v (Aborted tx) is = omega arith
rest_few v (PromiseAll tx ballot) is = omega arith

fact_valid : (f : Fact) → IsFact f → IsTx (fact_tx f)
fact_valid (Promise tx rm ballot) is = is.0
fact_valid (Accept tx rm ballot vote) is = is.0
fact_valid (Ballot tx ballot) is = is.0
fact_valid (VotePrepared tx keys) is = is.0
fact_valid (VoteAborted tx) is = is
fact_valid (Committed tx) is = is
fact_valid (Aborted tx) is = is
fact_valid (PromiseAll tx ballot) is = is.0

fields_few : (v : VersionNumber) (e : Entry) → IsEntry e → length (fields_spelling (version_of v) e) ≤ 21879
fields_few v (Entry.Fact f) is =
    let V = version_of v in
    omega (
      arith,
      length-append (tx_spelling V (fact_tx f)) (rest_spelling V f),
      rest_has V f,
      rest_few v f is,
      tx_few v (fact_tx f)
          (fact_valid f is),
    )
fields_few v Snapshot is = omega arith
fields_few v (Row key value) is =
    omega (arith, length-append (component_spelling key) (value_spelling value), value_has value, is.0.few, is.1.few)
fields_few v (PastCommitted tx) is = omega (arith, tx_few v tx is)
fields_few v (PastAborted tx) is = omega (arith, tx_few v tx is)

-- no body is longer than one may be
pub body_few : (v : VersionNumber) (e : Entry) → IsEntryIn (version_of v) e → length (body_spelling (version_of v) e) ≤ most_body
body_few v e is = omega (arith, fields_few v e is.valid)

instance_in_2 : (f : Fact) → IsFact f → IsInstanceIn version_2 f
instance_in_2 (Promise tx rm ballot) is = is.1
instance_in_2 (Accept tx rm ballot vote) is = is.1
instance_in_2 (Ballot tx ballot) is = tt
instance_in_2 (VotePrepared tx keys) is = tt
instance_in_2 (VoteAborted tx) is = tt
instance_in_2 (Committed tx) is = tt
instance_in_2 (Aborted tx) is = tt
instance_in_2 (PromiseAll tx ballot) is = tt

named_in_2 : (e : Entry) → IsEntry e → IsNamedIn version_2 e
named_in_2 (Entry.Fact f) is = (in_version_2 (fact_valid f is), instance_in_2 f is)
named_in_2 Snapshot is = tt
named_in_2 (Row key value) is = tt
named_in_2 (PastCommitted tx) is = in_version_2 is
named_in_2 (PastAborted tx) is = in_version_2 is

-- each entry is one of version 2
pub entry_in_version_2 : (e : Entry) → IsEntry e → IsEntryIn version_2 e
entry_in_version_2 e is = record { valid = is; named = named_in_2 e is }

-- the body of an entry has no more bytes than a frame may have
pub written_few : (e : Entry) (xs : List ℕ) → IsEntry e → xs ≡ body_spelling version_2 e → length xs ≤ most_body
written_few e xs is same =
    let len : length xs ≡ length (body_spelling version_2 e) = ap length same in
    omega (arith, len, body_few Second e (entry_in_version_2 e is))

-- ---- of the frames of facts

-- how long they are together
abbrev pub length_of : List Fact → ℕ
length_of [] = 0
length_of (fact ∷ facts) = frame_length fact + length_of facts

-- two lists are as long as both
pub length_both : (xs ys : List Fact) → length_of (xs ++ ys) ≡ length_of xs + length_of ys
length_both [] ys = omega arith
length_both (x ∷ xs) ys = omega (arith, length_both xs ys)

-- it is the sum of their lengths
pub length_sum : (facts : List Fact) → sum (map frame_length facts) ≡ length_of facts
length_sum [] = refl
length_sum (fact ∷ facts) =
    let all : sum (map frame_length (fact ∷ facts)) ≡ frame_length fact + sum (map frame_length facts) =
    sum_by-cons (λ (n : ℕ). n) (frame_length fact) (map frame_length facts) in
    all ∙ ap (λ n. frame_length fact + n) (length_sum facts)
