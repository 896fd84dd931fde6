use Rattle.floored_history.proofs.Steps.{grown, same}
use Rattle.floored_history.proofs.headline.steps_are_told.Goals as goal

pub returns-clause-grown : goal.returns-clause-grown
returns-clause-grown c = grown

pub returns-clause-same : goal.returns-clause-same
returns-clause-same c = same
