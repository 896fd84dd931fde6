use Rattle.std.proofs.Common.{◌≡◌, [], take}
use Rattle.std.specs.List.{fold}
use Rattle.protocol.specs.Tables.{put_row}
use Rattle.audit.proofs.tables.Tables.put_all.Given as goal

abbrev pub invariant-loop-row : goal.invariant-loop-row
invariant-loop-row l = l.table ≡ fold put_row [] (take l.row-index l.rows)
