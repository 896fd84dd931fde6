use Rattle.cluster.proofs.Following.{follow}
use Rattle.cluster.proofs.laws.runs_follow_the_machine.Goals as goal

pub returns : goal.returns
returns c = follow
