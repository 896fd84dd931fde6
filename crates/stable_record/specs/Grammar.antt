-- The grammar of records: the one spelling of each entry in a version, and what bytes hold. Numbers are big endian.
use Rattle.std.specs.Prelude.{◌≡◌, ◌⊎◌, ℕ, ◌+◌, ◌<◌, ◌≤◌, List, [], ◌∷◌, ◌++◌, length}
use Rattle.std.specs.List.{flat_map}
use Rattle.byteorder.specs.Endian.{big_number, big_bytes}
use Rattle.wire.specs.Versions.{Version, version_of}
use Rattle.wire.specs.declared.grammar.VersionNumber.{VersionNumber}
use Rattle.wire.specs.Grammar.{number_spelling, rm_spelling, component_spelling, tx_spelling, vote_byte}
use Rattle.stable_record.specs.declared.fact.Act.{Act}
use Rattle.stable_record.specs.declared.fact.Act.TheVariants.{Read, Del}
use Rattle.stable_record.specs.declared.fact.Touched.{Touched}
use Rattle.stable_record.specs.declared.fact.FactKind.{FactKind as Fact}
use Rattle.stable_record.specs.declared.fact.FactKind.TheVariants.{Promise, Accept, Ballot, VotePrepared, VoteAborted}
use Rattle.stable_record.specs.declared.fact.FactKind.TheVariants.{Committed, Aborted, PromiseAll}
use Rattle.stable_record.specs.declared.entry.EntryKind.{EntryKind as Entry}
use Rattle.stable_record.specs.declared.entry.EntryKind.TheVariants.{Snapshot, Row, PastCommitted, PastAborted}
use Rattle.stable_record.specs.Facts.{fact_tx}
use Rattle.stable_record.specs.Entries.{IsEntryIn}

-- a frame's body has at most so many bytes
abbrev pub most_body : ℕ
most_body = 32768

-- a value: its length in two bytes, its bytes
abbrev pub value_spelling : List ℕ → List ℕ
value_spelling value = big_bytes 2 (length value) ++ value

-- what was done to a key: one byte, and the value of a put
abbrev pub act_spelling : Act → List ℕ
act_spelling Read = 0 ∷ []
act_spelling (Act.Put value) = 1 ∷ value_spelling value
act_spelling Del = 2 ∷ []

-- a touched key: its length in one byte, its bytes, its act
abbrev pub touched_spelling : Touched → List ℕ
touched_spelling touched = component_spelling touched.key ++ act_spelling touched.act

-- touched keys: how many, and each
abbrev pub keys_spelling : List Touched → List ℕ
keys_spelling keys = length keys ∷ flat_map touched_spelling keys

-- the number of a fact's kind
abbrev pub fact_byte : Fact → ℕ
fact_byte (Promise tx instance ballot) = 1
fact_byte (Accept tx instance ballot vote) = 2
fact_byte (Ballot tx ballot) = 3
fact_byte (VotePrepared tx keys) = 4
fact_byte (VoteAborted tx) = 5
fact_byte (Committed tx) = 6
fact_byte (Aborted tx) = 7
fact_byte (PromiseAll tx ballot) = 8

-- what follows the transaction of a fact
abbrev pub rest_spelling : Version → Fact → List ℕ
rest_spelling v (Promise tx instance ballot) = rm_spelling v instance ++ number_spelling ballot
rest_spelling v (Accept tx instance ballot vote) = rm_spelling v instance ++ (number_spelling ballot ++ vote_byte vote ∷ [])
rest_spelling v (Ballot tx ballot) = number_spelling ballot
rest_spelling v (VotePrepared tx keys) = keys_spelling keys
rest_spelling v (VoteAborted tx) = []
rest_spelling v (Committed tx) = []
rest_spelling v (Aborted tx) = []
rest_spelling v (PromiseAll tx ballot) = number_spelling ballot

-- the number of an entry's kind
abbrev pub entry_byte : Entry → ℕ
entry_byte (Entry.Fact fact) = fact_byte fact
entry_byte Snapshot = 9
entry_byte (Row key value) = 10
entry_byte (PastCommitted tx) = 11
entry_byte (PastAborted tx) = 12

-- what follows version and kind
abbrev pub fields_spelling : Version → Entry → List ℕ
fields_spelling v (Entry.Fact fact) = tx_spelling v (fact_tx fact) ++ rest_spelling v fact
fields_spelling v Snapshot = []
fields_spelling v (Row key value) = component_spelling key ++ value_spelling value
fields_spelling v (PastCommitted tx) = tx_spelling v tx
fields_spelling v (PastAborted tx) = tx_spelling v tx

-- the body of a frame: version, kind, fields
abbrev pub body_spelling : Version → Entry → List ℕ
body_spelling v entry = v.byte ∷ entry_byte entry ∷ fields_spelling v entry

-- an entry's frame: the body's length in four bytes, and the body
abbrev pub frame : Version → Entry → List ℕ
frame v entry = number_spelling (length (body_spelling v entry)) ++ body_spelling v entry

-- no whole frame: fewer than four bytes, or fewer than the length in front of them says, which is one that a body may have
pub record IsCutFrame (bytes : List ℕ) : Type 0 where
  pub head : 4 ≤ length bytes
  pub some : 1 ≤ big_number 4 bytes
  pub few : big_number 4 bytes ≤ most_body
  pub cut : length bytes < 4 + big_number 4 bytes

-- bytes are no whole frame: too few for a length, or fewer than it says
abbrev pub IsTail : List ℕ → Type 0
IsTail bytes = (length bytes < 4) ⊎ IsCutFrame bytes

-- bytes begin with an entry's frame in a version, and these follow it
pub record IsFramed (entry : Entry) (bytes rest : List ℕ) : Type 0 where
  pub version : VersionNumber
  pub valid : IsEntryIn (version_of version) entry
  pub same : bytes ≡ frame (version_of version) entry ++ rest

-- what bytes hold: the frames of these entries, each in its version, and a tail
abbrev pub IsStored : List ℕ → List Entry → List ℕ → Type 0
IsStored bytes [] tail = (bytes ≡ tail) × IsTail tail
IsStored bytes (entry ∷ entries) tail = (rest : List ℕ) × IsFramed entry bytes rest × IsStored rest entries tail

-- bytes hold no list of entries
abbrev pub IsDamaged : List ℕ → Type 0
IsDamaged bytes = (entries : List Entry) (tail : List ℕ) → IsStored bytes entries tail → ⊥

-- bytes neither begin with a frame nor are a tail
pub record HasNoFrame (bytes : List ℕ) : Type 0 where
  pub tail : IsTail bytes → ⊥
  pub framed : (entry : Entry) (rest : List ℕ) → IsFramed entry bytes rest → ⊥
