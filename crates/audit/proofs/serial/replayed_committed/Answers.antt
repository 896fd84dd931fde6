use Rattle.audit.specs.Books.{rows_of, stretch_of, has_committed}
use Rattle.audit.specs.ToldTables.{first_tables}
use Rattle.audit.proofs.SerialLemmas.{committed_more}
use Rattle.audit.proofs.serial.replayed_committed.Goals as goal

pub loop-number-preserved : goal.loop-number-preserved
loop-number-preserved c = λ rm.
    committed_more (first_tables c.args.tables.now) (stretch_of c.args.ledger.now.branches) c.args.ledger.now.firsts c.loop-number.number
    c.in-Some.tx c.in-Some.ensures (has_committed c.args.ledger.now.views rm) rm (rows_of c.loop-number.committed rm)
    (rows_of c.write_committed.new.tables rm) (c.loop-number.invariant rm) (c.in_ok-write_committed.ensures.ok rm)
