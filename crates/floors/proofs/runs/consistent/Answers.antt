use Rattle.floors.proofs.Following.{consistent}
use Rattle.floors.proofs.runs.consistent.Goals as goal

pub returns : goal.returns
returns c = consistent
