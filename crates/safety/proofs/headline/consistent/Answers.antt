use Rattle.safety.proofs.World.Reachable.{consistent}
use Rattle.safety.proofs.headline.consistent.Goals as goal

pub returns : goal.returns
returns c = consistent
