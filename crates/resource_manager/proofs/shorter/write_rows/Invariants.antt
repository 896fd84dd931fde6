use Rattle.std.proofs.Common.{map, take}
use Rattle.stable_record.specs.Written.{AddsEntries}
use Rattle.resource_manager.specs.Compacted.{row_entry}
use Rattle.resource_manager.proofs.shorter.write_rows.Given as goal

abbrev pub invariant-loop-row : goal.invariant-loop-row
invariant-loop-row l = AddsEntries l.fn.frames.items l.frames.items (map row_entry (take l.row-index l.rows))
