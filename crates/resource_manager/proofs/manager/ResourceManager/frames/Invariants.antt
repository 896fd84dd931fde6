use Rattle.std.proofs.Common.{◌∷◌, ◌++◌, map, take}
use Rattle.std.specs.Prelude.{filter_map, slice_get}
use Rattle.stable_record.specs.declared.entry.EntryKind.TheVariants as entries
use Rattle.resource_manager.specs.Compacted.{entry_at, row_entry}
use Rattle.resource_manager.proofs.Frames.{IsWrittenTo}
use Rattle.resource_manager.proofs.manager.ResourceManager.frames.Given as goal

abbrev pub invariant-loop-number : goal.invariant-loop-number
invariant-loop-number l =
    IsWrittenTo l.frames.items ((entries.Snapshot ∷ map row_entry l.self.table.rows)
    ++ filter_map (entry_at l.self) (filter_map (slice_get l.self.courses.transactions) (take l.number-index l.number-items)))
