use Rattle.groups.proofs.Reached.{consistent}
use Rattle.groups.proofs.headline.consistent.Goals as goal

pub returns : goal.returns
returns c = consistent
