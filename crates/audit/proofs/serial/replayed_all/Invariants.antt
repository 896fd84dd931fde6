use Rattle.std.proofs.Common.{◌≡◌, ℕ, true, take}
use Rattle.std.specs.List.{list_all}
use Rattle.history.specs.SerialOrder.{those_before}
use Rattle.audit.specs.Books.{rows_of, stretch_of}
use Rattle.audit.specs.Consistent.{serial_table, read_after}
use Rattle.audit.specs.ToldTables.{first_tables}
use Rattle.audit.proofs.serial.replayed_all.Given as goal

abbrev pub invariant-loop-number : goal.invariant-loop-number
invariant-loop-number l = record {
  all : (rm : ℕ) → rows_of l.all rm
      ≡ serial_table (first_tables l.tables) (stretch_of l.ledger.branches) rm (take l.number l.ledger.firsts);
  read : list_all (λ tx. read_after (first_tables l.tables) (stretch_of l.ledger.branches) (those_before tx l.ledger.firsts) tx)
      (take l.number l.ledger.firsts) ≡ true;
}
