use Rattle.wire.proofs.SpelledAgain.{is_spelled}
use Rattle.serving.proofs.waiting.spell.Goals as goal

pub returns-clause-whole : goal.returns-clause-whole
returns-clause-whole c = is_spelled _ c.args.tx.now c.count.ensures.valid c.put_tx-end.ensures.shown
