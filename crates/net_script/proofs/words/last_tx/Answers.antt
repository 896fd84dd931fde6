use Rattle.net_script.proofs.Arms.{found}
use Rattle.net_script.proofs.WordLemmas.{reads_none}
use Rattle.net_script.proofs.words.last_tx.Goals as goal

pub returns-in_default : goal.returns-in_default
returns-in_default c = λ tx is e. reads_none _ _ _ _ c.in_default.is (found _ _ _ _ _ c.in_ok-tx.ensures c.read.ensures) (tx, tt) (is, tt) e
