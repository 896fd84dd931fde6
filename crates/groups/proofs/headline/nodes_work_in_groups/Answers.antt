use Rattle.groups.proofs.Nodes.{are_groups}
use Rattle.groups.proofs.headline.nodes_work_in_groups.Goals as goal

pub returns : goal.returns
returns c = are_groups
