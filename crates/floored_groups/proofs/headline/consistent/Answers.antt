use Rattle.floored_groups.proofs.Reached.{consistent}
use Rattle.floored_groups.proofs.headline.consistent.Goals as goal

pub returns : goal.returns
returns c = consistent
