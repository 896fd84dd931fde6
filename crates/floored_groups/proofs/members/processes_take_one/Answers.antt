use Rattle.floored_groups.proofs.Taken.{taken_alone}
use Rattle.floored_groups.proofs.members.processes_take_one.Goals as goal

pub returns : goal.returns
returns c = taken_alone
