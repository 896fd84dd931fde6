use Rattle.floored_groups.proofs.Clusters.{stand_for}
use Rattle.floored_groups.proofs.cluster.processes_are_clusters.Goals as goal

pub returns : goal.returns
returns c = stand_for
