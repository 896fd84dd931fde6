use Rattle.std.proofs.Common.{◌≡◌, ℕ, take}
use Rattle.std.specs.Prelude.{filter}
use Rattle.audit.specs.Books.{rows_of, stretch_of, has_committed}
use Rattle.audit.specs.Consistent.{serial_table}
use Rattle.audit.specs.ToldTables.{first_tables}
use Rattle.audit.proofs.serial.replayed_committed.Given as goal

abbrev pub invariant-loop-number : goal.invariant-loop-number
invariant-loop-number l = (rm : ℕ) → rows_of l.committed rm
    ≡ serial_table (first_tables l.tables) (stretch_of l.ledger.branches) rm
    (filter (has_committed l.ledger.views rm) (take l.number l.ledger.firsts))
