-- How many bytes a fact has where it is written, and what is left where an append is stopped.
use Rattle.std.specs.Prelude.{◌≡◌, ℕ, ◌+◌, List, ◌++◌, length, map, sum, take}
use Rattle.wire.specs.Versions.{Version, version_2}
use Rattle.wire.specs.Grammar.{tx_spelling}
use Rattle.stable_record.specs.declared.fact.Act.{Act}
use Rattle.stable_record.specs.declared.fact.Touched.{Touched}
use Rattle.stable_record.specs.declared.fact.FactKind.{FactKind as Fact}
use Rattle.stable_record.specs.declared.fact.FactKind.TheVariants.{Promise, Accept, Ballot, VotePrepared, PromiseAll}
use Rattle.stable_record.specs.Facts.{fact_tx}

-- the value of a put, with its length
abbrev pub act_length : Act → ℕ
act_length (Act.Put value) = 2 + length value
act_length act = 0

-- a key with its length, and its act
abbrev pub touched_length : Touched → ℕ
touched_length touched = 2 + length touched.key + act_length touched.act

-- what follows version, kind and transaction, in a version
abbrev pub rest_length : Version → Fact → ℕ
rest_length v (Promise tx i b) = v.rm_width + 4
rest_length v (Accept tx i b vote) = v.rm_width + 5
rest_length v (Ballot tx b) = 4
rest_length v (PromiseAll tx b) = 4
rest_length v (VotePrepared tx keys) = 1 + sum (map touched_length keys)
rest_length v fact = 0

-- a fact's frame in a version: its length in four bytes, version, kind, transaction and rest
abbrev pub frame_length_in : Version → Fact → ℕ
frame_length_in v fact = 6 + length (tx_spelling v (fact_tx fact)) + rest_length v fact

-- a fact's frame as it is written today, in version 2
abbrev pub frame_length : Fact → ℕ
frame_length = frame_length_in version_2

-- the first n bytes of a frame, or all of it: what a stopped append leaves after the bytes that stood
abbrev pub torn : List ℕ → ℕ → List ℕ
torn frame n = take n frame

-- the beginning is a beginning of the whole
abbrev pub Begins : List ℕ → List ℕ → Type 0
Begins beginning whole = (rest : List ℕ) × (beginning ++ rest ≡ whole)
