use Rattle.std.proofs.Common.{◌≡◌, true, take}
use Rattle.audit.specs.Books.{rows_of}
use Rattle.audit.specs.ToldTables.{are_tables}
use Rattle.audit.proofs.tables.Tables.count_right.Given as goal

abbrev pub invariant-loop-rm : goal.invariant-loop-rm
invariant-loop-rm l = are_tables (rows_of l.self) 0 (take l.rm l.finals) ≡ true
