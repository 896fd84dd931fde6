-- Entries as they are written today, one frame after the other.
use Rattle.std.specs.Prelude.{◌≡◌, ℕ, List, [], ◌++◌, map}
use Rattle.std.specs.List.{flat_map}
use Rattle.wire.specs.Versions.{version_2}
use Rattle.stable_record.specs.declared.entry.EntryKind.{EntryKind as Entry}
use Rattle.stable_record.specs.declared.fact.FactKind.{FactKind as Fact}
use Rattle.stable_record.specs.Grammar.{IsStored, frame}

-- bytes are the frames of entries in version 2, and no more
pub record AreWritten (bytes : List ℕ) (all : List Entry) : Type 0 where
  pub bytes_are : bytes ≡ flat_map (frame version_2) all
  pub stored : IsStored bytes all []

-- the frames of entries were written behind those of others
abbrev pub AddsEntries : (old new : List ℕ) → List Entry → Type 0
AddsEntries old new added = (all : List Entry) → AreWritten old all → AreWritten new (all ++ added)

-- the frames of facts were written behind those of others
abbrev pub AddsFacts : (old new : List ℕ) → List Fact → Type 0
AddsFacts old new added = (all : List Fact) → AreWritten old (map Entry.Fact all) → AreWritten new (map Entry.Fact (all ++ added))
