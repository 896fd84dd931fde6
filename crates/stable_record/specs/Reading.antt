-- How the fields of entries are taken from the front of bytes, in a version.
use Rattle.std.specs.Prelude.{◌≡◌, ◌⊎◌, ℕ, ◌==◌, Bool, true, ◌&&◌, cond, nat_lt, List, [], ◌∷◌, length, take, drop, Option, Some, None}
use Rattle.std.specs.Prelude.{Result, Ok, Err}
use Rattle.std.specs.Borrow.{Bor}
use Rattle.std.specs.Cmp.Lexicographic.{slice_cmp}
use Rattle.std.specs.Ordering.{nat_cmp, is_lt}
use Rattle.xid.specs.Limits.{most_value, most_touched}
use Rattle.xid.specs.Transactions.{TxParts}
use Rattle.xid.specs.declared.refusals.Refusal.{Refusal}
use Rattle.xid.specs.declared.refusals.Refusal.TheVariants.{Damaged, NoMemory}
use Rattle.wire.specs.Versions.{Version, version_of}
use Rattle.wire.specs.declared.grammar.VersionNumber.{VersionNumber}
use Rattle.wire.specs.declared.grammar.VersionNumber.TheVariants.{First, Second}
use Rattle.wire.specs.Reading.{◌>>=◌, byte_at, big_at, number_at, component_at, instance_at, vote_at, list_at, end_at}
use Rattle.wire.specs.Decoding.{tx_in}
use Rattle.stable_record.specs.declared.fact.Act.{Act}
use Rattle.stable_record.specs.declared.fact.Act.TheVariants.{Read, Put, Del}
use Rattle.stable_record.specs.declared.fact.Touched.{Touched}
use Rattle.stable_record.specs.declared.fact.FactKind.{FactKind as Fact}
use Rattle.stable_record.specs.declared.fact.FactKind.TheVariants.{Promise, Accept, Ballot, VotePrepared, VoteAborted}
use Rattle.stable_record.specs.declared.fact.FactKind.TheVariants.{Committed, Aborted, PromiseAll}
use Rattle.stable_record.specs.declared.entry.EntryKind.{EntryKind as Entry}
use Rattle.stable_record.specs.declared.entry.EntryKind.TheVariants.{Snapshot, Row, PastCommitted, PastAborted}

-- what a reading that takes memory answers: the field and the bytes after it, else that there is none, or that memory ran out
abbrev pub IsRead : {X : Type 0} → Option (X × List ℕ) → Result (X × Bor (List ℕ)) Refusal → Type 0
IsRead read (Ok x) = read ≡ Some (x.0, x.1.now)
IsRead read (Err e) = ((e ≡ Damaged) × (read ≡ None)) ⊎ (e ≡ NoMemory)

-- the same where nothing follows
abbrev pub IsReadWhole : {X : Type 0} → Option X → Result X Refusal → Type 0
IsReadWhole read (Ok x) = read ≡ Some x
IsReadWhole read (Err e) = ((e ≡ Damaged) × (read ≡ None)) ⊎ (e ≡ NoMemory)

-- a value at the front, and the bytes after it
unfoldable pub value_at : List ℕ → Option (List ℕ × List ℕ)
value_at bytes = do
  n ← big_at 2 bytes
  cond (nat_lt most_value n.0) None (cond (nat_lt (length n.1) n.0) None (Some (take n.0 n.1, drop n.0 n.1)))

-- a key at the front, which isn't empty, and the bytes after it
unfoldable pub key_at : List ℕ → Option (List ℕ × List ℕ)
key_at bytes = do
  key ← component_at bytes
  cond (nat_lt 0 (length key.0)) (Some key) None

-- an act at the front, and the bytes after it
unfoldable pub act_at : List ℕ → Option (Act × List ℕ)
act_at bytes = do
  code ← byte_at bytes
  cond (code.0 == 0) (Some (Read, code.1)) (cond (code.0 == 1) (do
    value ← value_at code.1
    Some (Put value.0, value.1)) (cond (code.0 == 2) (Some (Del, code.1)) None))

-- a touched key at the front, and the bytes after it
unfoldable pub touched_at : List ℕ → Option (Touched × List ℕ)
touched_at bytes = do
  key ← key_at bytes
  act ← act_at key.1
  Some (record { key = key.0; act = act.0 }, act.1)

-- whether keys ascend strictly by their bytes
abbrev pub are_ascending : List Touched → Bool
are_ascending [] = true
are_ascending (first ∷ []) = true
are_ascending (first ∷ second ∷ rest) = is_lt (slice_cmp nat_cmp first.key second.key) && are_ascending (second ∷ rest)

-- the touched keys of a vote behind their number, and the bytes after them
unfoldable pub keys_at : List ℕ → Option (List Touched × List ℕ)
keys_at bytes = do
  count ← byte_at bytes
  cond (nat_lt most_touched count.0) None (do
    keys ← list_at touched_at count.0 count.1
    cond (are_ascending keys.0) (Some keys) None)

-- the ballot of a leader at the front, and the bytes after it
unfoldable pub leader_ballot_at : List ℕ → Option (ℕ × List ℕ)
leader_ballot_at bytes = do
  ballot ← number_at bytes
  cond (nat_lt 0 ballot.0) (Some ballot) None

-- the promise whose fields follow the transaction, and the bytes after it
unfoldable pub promise_at : Version → TxParts → List ℕ → Option (Fact × List ℕ)
promise_at v tx bytes = do
  i ← instance_at v bytes
  Some (Promise tx i.0 i.1, i.2)

-- the accept whose fields follow the transaction, and the bytes after it
unfoldable pub accept_at : Version → TxParts → List ℕ → Option (Fact × List ℕ)
accept_at v tx bytes = do
  i ← instance_at v bytes
  vote ← vote_at i.2
  Some (Accept tx i.0 i.1 vote.0, vote.1)

-- the ballot begun whose field follows the transaction, and the bytes after it
unfoldable pub ballot_at : TxParts → List ℕ → Option (Fact × List ℕ)
ballot_at tx bytes = do
  ballot ← leader_ballot_at bytes
  Some (Ballot tx ballot.0, ballot.1)

-- the promise for all whose field follows the transaction, and the bytes after it
unfoldable pub promise_all_at : TxParts → List ℕ → Option (Fact × List ℕ)
promise_all_at tx bytes = do
  ballot ← leader_ballot_at bytes
  Some (PromiseAll tx ballot.0, ballot.1)

-- the vote prepared whose keys follow the transaction, and the bytes after it
unfoldable pub vote_prepared_at : TxParts → List ℕ → Option (Fact × List ℕ)
vote_prepared_at tx bytes = do
  keys ← keys_at bytes
  Some (VotePrepared tx keys.0, keys.1)

-- the fact of a kind, by the kind's number, whose fields follow the transaction, and the bytes after it
unfoldable pub fact_at : Version → ℕ → TxParts → List ℕ → Option (Fact × List ℕ)
fact_at v code tx bytes =
    cond (code == 1) (promise_at v tx bytes) (cond (code == 2) (accept_at v tx bytes) (cond (code == 3) (ballot_at tx bytes)
    (cond (code == 4) (vote_prepared_at tx bytes)
    (cond (code == 5) (Some (VoteAborted tx, bytes)) (cond (code == 6) (Some (Committed tx, bytes))
    (cond (code == 7) (Some (Aborted tx, bytes)) (cond (code == 8) (promise_all_at tx bytes) None)))))))

-- a row of the table at the front, and the bytes after it
unfoldable pub row_at : List ℕ → Option (Entry × List ℕ)
row_at bytes = do
  key ← key_at bytes
  value ← value_at key.1
  Some (Row key.0 value.0, value.1)

-- the entry about a transaction, by its kind's number, and the bytes after it
unfoldable pub about_at : Version → ℕ → TxParts → List ℕ → Option (Entry × List ℕ)
about_at v code tx bytes =
    cond (code == 11) (Some (PastCommitted tx, bytes)) (cond (code == 12) (Some (PastAborted tx, bytes)) (do
      fact ← fact_at v code tx bytes
      Some (Entry.Fact fact.0, fact.1)))

-- the entry of a kind, by the kind's number, and the bytes after it
unfoldable pub entry_at : Version → ℕ → List ℕ → Option (Entry × List ℕ)
entry_at v code bytes =
    cond (code == 9) (Some (Snapshot, bytes)) (cond (code == 10) (row_at bytes) (do
      tx ← tx_in v bytes
      about_at v code tx.0 tx.1))

-- the version of a number
abbrev pub version_at : ℕ → Option VersionNumber
version_at number = cond (number == 1) (Some First) (cond (number == 2) (Some Second) None)

-- the entry whose body this is
unfoldable pub body_at : List ℕ → Option Entry
body_at bytes = do
  number ← byte_at bytes
  v ← version_at number.0
  code ← byte_at number.1
  entry ← entry_at (version_of v) code.0 code.1
  end ← end_at entry.1
  Some entry.0
