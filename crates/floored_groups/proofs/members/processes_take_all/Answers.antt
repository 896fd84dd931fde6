use Rattle.floored_groups.proofs.Taken.{taken, unstored}
use Rattle.floored_groups.proofs.members.processes_take_all.Goals as goal

pub returns-clause-stored : goal.returns-clause-stored
returns-clause-stored c config world reach who items old new before after s can takes =
    taken config world reach who items old new before after s can takes

pub returns-clause-stopped : goal.returns-clause-stopped
returns-clause-stopped c config world reach who items old new before after s can error takes =
    unstored config world reach who items old new before after s can error takes
