use Rattle.std.proofs.Common.{◌≡◌, ℕ, take}
use Rattle.audit.specs.Books.{rows_of}
use Rattle.audit.specs.ToldTables.{first_tables}
use Rattle.audit.proofs.tables.Tables.first.Given as goal

abbrev pub invariant-loop-table : goal.invariant-loop-table
invariant-loop-table l = (rm : ℕ) → rows_of l.first rm ≡ first_tables (take l.table-index l.tables) rm
