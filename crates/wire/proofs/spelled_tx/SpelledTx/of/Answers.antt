use Rattle.wire.proofs.SpelledAgain.{spelled_is, is_spelled}
use Rattle.wire.proofs.spelled_tx.SpelledTx.of.Goals as goal

pub invariant_of-result : goal.invariant_of-result
invariant_of-result c = is_spelled _ c.args.tx.now c.count.ensures.valid c.put_tx-end.ensures.shown

pub returns : goal.returns
returns c = spelled_is _ c.args.tx.now c.count.ensures.valid c.put_tx-end.ensures.shown
