use Rattle.cluster_run.proofs.OneRun.{one_run}
use Rattle.cluster_run.proofs.laws.ample_runs_are_one.Goals as goal

pub returns : goal.returns
returns c = one_run
