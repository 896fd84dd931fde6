use Rattle.wire.proofs.SpelledAgain.{placed_is, is_placed}
use Rattle.wire.proofs.spelled_tx.PlacedTx.put.Goals as goal

pub invariant_of-self : goal.invariant_of-self
invariant_of-self c =
    is_placed _ _ c.as_bytes.result.now c.args.tx.now c.as_bytes.ensures.valid c.as_bytes.ensures.value
    c.put_bytes-self-inside.ensures.end c.put_bytes-self-inside.ensures.shown c.as_bytes.ensures.few

pub returns : goal.returns
returns c =
    placed_is _ _ c.as_bytes.result.now c.args.tx.now c.as_bytes.ensures.valid c.as_bytes.ensures.value
    c.put_bytes-self-inside.ensures.end c.put_bytes-self-inside.ensures.shown
