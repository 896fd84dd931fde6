use Rattle.floors.proofs.Following.{steps}
use Rattle.floors.proofs.runs.each_step.Goals as goal

pub returns : goal.returns
returns c = steps
