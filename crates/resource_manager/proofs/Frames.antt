-- What a resource manager writes, frame by frame.
-- Needed by `ResourceManager::frames`, `ResourceManager::shorter`, `ResourceManager::write_entry` and `write_one`.
use Rattle.std.proofs.Common.{◌≡◌, ◌∙◌, ℕ, List, [], ◌∷◌, ◌++◌, Option, Some, sym, ap, subst, map, append-nil}
use Rattle.std.specs.Prelude.{IfOk, OnOk, Result, Ok, Err}
use Rattle.std.specs.List.{cons_option}
use Rattle.xid.specs.declared.refusals.Refusal.{Refusal}
use Rattle.wire.specs.Versions.{version_2}
use Rattle.stable_record.specs.declared.entry.EntryKind.{EntryKind as Entry}
use Rattle.stable_record.specs.declared.entry.EntryKind.TheVariants as entries
use Rattle.stable_record.specs.Entries.{IsEntry}
use Rattle.stable_record.specs.Facts.{IsKey, IsValue}
use Rattle.stable_record.specs.Grammar.{frame}
use Rattle.stable_record.specs.Written.{AreWritten, AddsEntries}
use Rattle.stable_record.proofs.Written.{none_written, adds_one}
use Rattle.protocol.specs.declared.rows.Row.{Row}
use Rattle.resource_manager.specs.Compacted.{AreShorterFrames, row_entry, entries_at}
use Rattle.resource_manager.specs.Managers.{ManagerParts}
use Rattle.resource_manager.proofs.Shortened.{shortened}

-- ---- rows

-- one row
pub row_written : (r : Result (Unit {0}) Refusal) (key value old new : List ℕ) (row : Row) → key ≡ row.key → value ≡ row.value
    → IsKey row.key × IsValue row.value → OnOk r (new ≡ old ++ frame version_2 (entries.Row key value))
    → OnOk r (AddsEntries old new (row_entry row ∷ []))
row_written (Err e) key value old new row key_is value_is valid h = tt
row_written (Ok done) key value old new row key_is value_is valid h =
    adds_one old new (row_entry row) valid (h ∙ λ i. old ++ frame version_2 (entries.Row (key_is i) (value_is i)))

-- ---- entries about transactions

-- what the frame of an entry that is given adds
pub given_written : (r : Result (Unit {0}) Refusal) (old new : List ℕ) (entry : Entry) (given : Option Entry) → Some entry ≡ given
    → IsEntry entry → OnOk r (new ≡ old ++ frame version_2 entry) → OnOk r (AddsEntries old new (cons_option given []))
given_written (Err e) old new entry given is valid put = tt
given_written (Ok done) old new entry given is valid put =
    subst (λ o. AddsEntries old new (cons_option o [])) is (adds_one old new entry valid put)

-- ---- the whole

-- frames of some entries so far
pub record IsWrittenTo (bytes : List ℕ) (so_far : List Entry) : Type 0 where
  pub done : List Entry
  pub written : AreWritten bytes done
  pub are : done ≡ so_far

-- the snapshot, and the rows behind it
pub begun_written : (m : ManagerParts) (none first second : List ℕ) (entry : Entry) (rows : List Row) → none ≡ []
    → entry ≡ entries.Snapshot → first ≡ none ++ frame version_2 entry → rows ≡ m.table.rows → AddsEntries first second (map row_entry rows)
    → IsWrittenTo second ((entries.Snapshot ∷ map row_entry m.table.rows) ++ [])
begun_written m none first second entry rows empty snapshot one same adds =
    let at_front : first ≡ [] ++ frame version_2 entries.Snapshot =
    one ∙ λ i. empty i ++ frame version_2 (snapshot i) in
    record {
      done = entries.Snapshot ∷ map row_entry rows;
      written = adds (entries.Snapshot ∷ []) (adds_one [] first entries.Snapshot tt at_front [] none_written);
      are = ap (λ rs. entries.Snapshot ∷ map row_entry rs) same
          ∙ sym (append-nil (entries.Snapshot ∷ map row_entry m.table.rows));
    }

-- where there are frames, they are those of the shorter record
pub all_framed : {V E : Type 0} (r : Result V E) (items : V → List ℕ) (m : ManagerParts) → IfOk r (λ v. AreWritten (items v) (entries_at m))
    → IfOk r (λ v. AreShorterFrames m (items v))
all_framed (Ok v) items m written = record {
  all = entries_at m;
  written = written;
  shortened = λ config number facts branches stands. shortened config number m facts branches stands;
}
all_framed (Err refusal) items m written = tt
