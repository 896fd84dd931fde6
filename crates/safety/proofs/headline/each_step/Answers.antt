use Rattle.safety.proofs.World.Reachable.{steps}
use Rattle.safety.proofs.headline.each_step.Goals as goal

pub returns : goal.returns
returns c = steps
