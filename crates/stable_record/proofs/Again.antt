-- What is spelled is taken again: each field of an entry from the front of bytes, whatever follows it.
-- Needed by Framed.
use Rattle.std.proofs.Common.{◌≡◌, ℕ, ◌^◌, ◌<◌, ◌==◌, Bool, true, false, eqb-true, ltb, List, [], ◌∷◌, ◌++◌, length, Some, refl, sym, ap}
use Rattle.std.proofs.Common.{◌∙◌, append_assoc, arith}
use Rattle.std.proofs.lemmas.Bool.{le-ltb, lt-ltb}
use Rattle.std.proofs.lemmas.List.{append-nil, take_at, drop_at, length-append}
use Rattle.byteorder.specs.Endian.{big_bytes}
use Rattle.xid.specs.Limits.{most_value, most_touched}
use Rattle.xid.specs.Transactions.{TxParts}
use Rattle.xid.specs.declared.transaction.Vote.{Vote}
use Rattle.wire.specs.Messages.{IsBallot, IsLeaderBallot}
use Rattle.wire.specs.Versions.{Version, version_of}
use Rattle.wire.specs.declared.grammar.VersionNumber.{VersionNumber}
use Rattle.wire.specs.declared.grammar.VersionNumber.TheVariants.{First, Second}
use Rattle.wire.specs.Grammar.{number_spelling, rm_spelling, component_spelling, tx_spelling, vote_byte}
use Rattle.wire.specs.Reading.{instance_at}
use Rattle.wire.proofs.Fields.{big_again, number_again, component_again, vote_again, list_again}
use Rattle.wire.proofs.TakenTx.{in_again}
use Rattle.stable_record.specs.declared.fact.Act.{Act}
use Rattle.stable_record.specs.declared.fact.Act.TheVariants.{Read, Del}
use Rattle.stable_record.specs.declared.fact.Touched.{Touched}
use Rattle.stable_record.specs.declared.fact.FactKind.{FactKind as Fact}
use Rattle.stable_record.specs.declared.fact.FactKind.TheVariants.{Promise, Accept, Ballot, VotePrepared, VoteAborted}
use Rattle.stable_record.specs.declared.fact.FactKind.TheVariants.{Committed, Aborted, PromiseAll}
use Rattle.stable_record.specs.declared.entry.EntryKind.{EntryKind as Entry}
use Rattle.stable_record.specs.declared.entry.EntryKind.TheVariants.{Snapshot, Row, PastCommitted, PastAborted}
use Rattle.stable_record.specs.Facts.{IsFact, IsKey, IsValue, IsAct, IsTouched, AreKeys, AreAscending, fact_tx}
use Rattle.stable_record.specs.Entries.{IsEntryIn, IsInstanceIn}
use Rattle.stable_record.specs.Grammar.{value_spelling, act_spelling, touched_spelling, keys_spelling, fact_byte, rest_spelling, entry_byte}
use Rattle.stable_record.specs.Grammar.{fields_spelling, body_spelling}
use Rattle.stable_record.specs.Reading.{value_at, key_at, act_at, touched_at, are_ascending, keys_at, leader_ballot_at}
use Rattle.stable_record.specs.Reading.{promise_at, accept_at, ballot_at, promise_all_at, vote_prepared_at, fact_at, row_at, about_at}
use Rattle.stable_record.specs.Reading.{entry_at, body_at}

value_again : (xs rest : List ℕ) → IsValue xs → value_at (value_spelling xs ++ rest) ≡ Some (xs, rest)
unfolding value_at
value_again xs rest is =
    let first = big_again 2 (length xs) (xs ++ rest) (omega (arith, is.few)) in
    let fits : ltb most_value (length xs) ≡ false = le-ltb _ _ is.few in
    let long : ltb (length (xs ++ rest)) (length xs) ≡ false = le-ltb _ _ (omega (arith, length-append xs rest)) in
    ap value_at (append_assoc (big_bytes 2 (length xs)) xs rest)
    ∙ rw (first, fits, long, take_at xs rest (length xs) refl, drop_at xs rest (length xs) refl) refl

key_again : (xs rest : List ℕ) → IsKey xs → key_at (component_spelling xs ++ rest) ≡ Some (xs, rest)
unfolding key_at
key_again xs rest is =
    let some : ltb 0 (length xs) ≡ true = lt-ltb _ _ is.some in
    rw (component_again xs rest is.few, some) refl

act_again : (act : Act) (rest : List ℕ) → IsAct act → act_at (act_spelling act ++ rest) ≡ Some (act, rest)
unfolding act_at
act_again Read rest is = refl
act_again (Act.Put value) rest is = rw (value_again value rest is) refl
act_again Del rest is = refl

touched_again : (touched : Touched) (rest : List ℕ) → IsTouched touched
    → touched_at (touched_spelling touched ++ rest) ≡ Some (touched, rest)
unfolding touched_at
touched_again touched rest is =
    let after : List ℕ = act_spelling touched.act ++ rest in
    ap touched_at (append_assoc (component_spelling touched.key) (act_spelling touched.act) rest)
    ∙ rw (key_again touched.key after is.key, act_again touched.act rest is.act) refl

ascending_again : (keys : List Touched) → AreAscending keys → are_ascending keys ≡ true
ascending_again [] up = refl
ascending_again (first ∷ []) up = refl
ascending_again (first ∷ second ∷ rest) up = rw (up.0) (ascending_again (second ∷ rest) up.1)

keys_again : (keys : List Touched) (rest : List ℕ) → AreKeys keys → keys_at (keys_spelling keys ++ rest) ≡ Some (keys, rest)
unfolding keys_at
keys_again keys rest are =
    let fits : ltb most_touched (length keys) ≡ false = le-ltb _ _ are.few in
    let all = list_again touched_at touched_spelling IsTouched touched_again keys rest are.each in
    rw (fits, all, ascending_again keys are.ascending) refl

leader_ballot_again : (ballot : ℕ) (rest : List ℕ) → IsLeaderBallot ballot
    → leader_ballot_at (number_spelling ballot ++ rest) ≡ Some (ballot, rest)
unfolding leader_ballot_at
leader_ballot_again ballot rest is =
    let some : ltb 0 ballot ≡ true = lt-ltb _ _ (omega (arith, is.some)) in
    rw (number_again ballot rest is.fits, some) refl

instance_again : (v : Version) (rm ballot : ℕ) (rest : List ℕ) → rm < 256 ^ v.rm_width → ballot < 2 ^ 32
    → instance_at v (rm_spelling v rm ++ (number_spelling ballot ++ rest)) ≡ Some (rm, ballot, rest)
unfolding instance_at
instance_again v rm ballot rest below lt =
    rw (big_again v.rm_width rm (number_spelling ballot ++ rest) below, number_again ballot rest lt) refl

module _ (v : Version) (tx : TxParts) where
  promise_again : (rm ballot : ℕ) (rest : List ℕ) → rm < 256 ^ v.rm_width → IsBallot ballot
      → promise_at v tx (rest_spelling v (Promise tx rm ballot) ++ rest) ≡ Some (Promise tx rm ballot, rest)
  unfolding promise_at
  promise_again rm ballot rest below lt =
      ap (promise_at v tx) (append_assoc (rm_spelling v rm) (number_spelling ballot) rest)
      ∙ rw (instance_again v rm ballot rest below lt) refl

  accept_again : (rm ballot : ℕ) (vote : Vote) (rest : List ℕ) → rm < 256 ^ v.rm_width → IsBallot ballot
      → accept_at v tx (rest_spelling v (Accept tx rm ballot vote) ++ rest) ≡ Some (Accept tx rm ballot vote, rest)
  unfolding accept_at
  accept_again rm ballot vote rest below lt =
      let first = instance_again v rm ballot (vote_byte vote ∷ rest) below lt in
      ap (accept_at v tx) (append_assoc (rm_spelling v rm) (number_spelling ballot ++ vote_byte vote ∷ []) rest)
      ∙ rw (first, vote_again vote rest) refl

  ballot_again : (ballot : ℕ) (rest : List ℕ) → IsLeaderBallot ballot
      → ballot_at tx (number_spelling ballot ++ rest) ≡ Some (Ballot tx ballot, rest)
  unfolding ballot_at
  ballot_again ballot rest is = rw (leader_ballot_again ballot rest is) refl

  promise_all_again : (ballot : ℕ) (rest : List ℕ) → IsLeaderBallot ballot
      → promise_all_at tx (number_spelling ballot ++ rest) ≡ Some (PromiseAll tx ballot, rest)
  unfolding promise_all_at
  promise_all_again ballot rest is = rw (leader_ballot_again ballot rest is) refl

  vote_prepared_again : (keys : List Touched) (rest : List ℕ) → AreKeys keys
      → vote_prepared_at tx (keys_spelling keys ++ rest) ≡ Some (VotePrepared tx keys, rest)
  unfolding vote_prepared_at
  vote_prepared_again keys rest are = rw (keys_again keys rest are) refl

fact_again : (v : Version) (f : Fact) (rest : List ℕ) → IsFact f → IsInstanceIn v f
    → fact_at v (fact_byte f) (fact_tx f) (rest_spelling v f ++ rest) ≡ Some (f, rest)
unfolding fact_at
fact_again v (Promise tx rm ballot) rest is in-it = promise_again v tx rm ballot rest in-it is.2
fact_again v (Accept tx rm ballot vote) rest is in-it = accept_again v tx rm ballot vote rest in-it is.2
fact_again v (Ballot tx ballot) rest is in-it = ballot_again v tx ballot rest is.1
fact_again v (VotePrepared tx keys) rest is in-it = vote_prepared_again v tx keys rest is.1
fact_again v (VoteAborted tx) rest is in-it = refl
fact_again v (Committed tx) rest is in-it = refl
fact_again v (Aborted tx) rest is in-it = refl
fact_again v (PromiseAll tx ballot) rest is in-it = promise_all_again v tx ballot rest is.1

-- the numbers of facts are below those of the other entries
fact_below : (f : Fact) → fact_byte f < 9
fact_below (Promise tx rm ballot) = omega arith
fact_below (Accept tx rm ballot vote) = omega arith
fact_below (Ballot tx ballot) = omega arith
fact_below (VotePrepared tx keys) = omega arith
fact_below (VoteAborted tx) = omega arith
fact_below (Committed tx) = omega arith
fact_below (Aborted tx) = omega arith
fact_below (PromiseAll tx ballot) = omega arith

other : (a b : ℕ) → a < b → (a == b) ≡ false
other a b lt = by (a == b) (eqb-true a b)
  where
    by : (t : Bool) → (t ≡ true → a ≡ b) → t ≡ false
    by true same = let e : a ≡ b = same refl in absurd (omega (arith, e, lt))
    by false same = refl

row_again : (key value rest : List ℕ) → IsKey key → IsValue value
    → row_at ((component_spelling key ++ value_spelling value) ++ rest) ≡ Some (Row key value, rest)
unfolding row_at
row_again key value rest is-key is-value =
    ap row_at (append_assoc (component_spelling key) (value_spelling value) rest)
    ∙ rw (key_again key (value_spelling value ++ rest) is-key, value_again value rest is-value) refl

entry_again : (v : VersionNumber) (e : Entry) (rest : List ℕ) → IsEntryIn (version_of v) e
    → entry_at (version_of v) (entry_byte e) (fields_spelling (version_of v) e ++ rest) ≡ Some (e, rest)
unfolding entry_at about_at
entry_again v (Entry.Fact f) rest is =
    let V = version_of v in
    let below = fact_below f in
    let nine = other (fact_byte f) 9 below in
    let ten = other (fact_byte f) 10 (omega (arith, below)) in
    let eleven = other (fact_byte f) 11 (omega (arith, below)) in
    let twelve = other (fact_byte f) 12 (omega (arith, below)) in
    let after : List ℕ = rest_spelling V f ++ rest in
    ap (entry_at V (fact_byte f)) (append_assoc (tx_spelling V (fact_tx f)) (rest_spelling V f) rest)
    ∙ rw (nine, ten, in_again v (fact_tx f) after is.named.0, eleven, twelve, fact_again V f rest is.valid is.named.1) refl
entry_again v Snapshot rest is = refl
entry_again v (Row key value) rest is = row_again key value rest is.valid.0 is.valid.1
entry_again v (PastCommitted tx) rest is = rw (in_again v tx rest is.named) refl
entry_again v (PastAborted tx) rest is = rw (in_again v tx rest is.named) refl

-- the body of an entry is taken again
pub body_again : (v : VersionNumber) (e : Entry) → IsEntryIn (version_of v) e → body_at (body_spelling (version_of v) e) ≡ Some e
unfolding body_at
body_again First e is =
    let fields = fields_spelling (version_of First) e in
    let whole : entry_at (version_of First) (entry_byte e) fields ≡ Some (e, []) =
    ap (entry_at (version_of First) (entry_byte e)) (sym (append-nil fields)) ∙ entry_again First e [] is in
    rw whole refl
body_again Second e is =
    let fields = fields_spelling (version_of Second) e in
    let whole : entry_at (version_of Second) (entry_byte e) fields ≡ Some (e, []) =
    ap (entry_at (version_of Second) (entry_byte e)) (sym (append-nil fields)) ∙ entry_again Second e [] is in
    rw whole refl
