use Rattle.audit.specs.Books.{has_committed_everywhere}
use Rattle.audit.proofs.SerialLemmas.{holds_next}
use Rattle.audit.proofs.serial.are_all_committed.Goals as goal

pub loop-number-preserved : goal.loop-number-preserved
loop-number-preserved c =
    holds_next (has_committed_everywhere c.args.ledger.now.views) c.args.ledger.now.firsts c.loop-number.number c.in-Some.tx
    c.in-Some.ensures c.loop-number.invariant (c.if-not-has_committed_everywhere.ensures (search))
