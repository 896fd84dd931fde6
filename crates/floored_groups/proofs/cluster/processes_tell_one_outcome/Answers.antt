use Rattle.floored_groups.proofs.Telling.{one_outcome}
use Rattle.floored_groups.proofs.cluster.processes_tell_one_outcome.Goals as goal

pub returns : goal.returns
returns c config all run tx l other one two h commits k aborts = one_outcome config all run tx l other one two h commits k aborts
