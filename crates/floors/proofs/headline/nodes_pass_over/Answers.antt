use Rattle.floors.proofs.Nodes.{floored_is}
use Rattle.floors.proofs.headline.nodes_pass_over.Goals as goal

pub returns : goal.returns
returns c = floored_is
