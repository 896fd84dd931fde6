use Rattle.wire.proofs.SpelledAgain.{bytes_few}
use Rattle.wire.proofs.spelled_tx.SpelledTx.as_bytes.Goals as goal

pub returns-clause-few : goal.returns-clause-few
returns-clause-few c = bytes_few _ c.self.invariant
