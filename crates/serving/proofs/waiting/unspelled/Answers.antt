use Rattle.serving.proofs.WatchLemmas.{spelled_not_taken, spelled_taken}
use Rattle.serving.proofs.waiting.unspelled.Goals as goal

pub returns-in_default : goal.returns-in_default
returns-in_default c = λ is. absurd (spelled_not_taken c.args.spelled.now c.in_default.ensures is)

pub returns : goal.returns
returns c = λ is. spelled_taken c.args.spelled.now c.in-Some.taken.0 c.in-Some.taken.1.now c.in-Some.ensures is
