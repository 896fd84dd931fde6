use Rattle.serving.proofs.ServedLemmas.{who_asked_is_told}
use Rattle.serving.proofs.laws.who_asked_is_told.Goals as goal

pub returns : goal.returns
returns c = who_asked_is_told
