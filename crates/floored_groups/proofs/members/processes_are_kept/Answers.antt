use Rattle.floored_groups.proofs.Reopened.{reopened_on}
use Rattle.floored_groups.proofs.Upkept.{compacted, raised, restarted}
use Rattle.floored_groups.proofs.members.processes_are_kept.Goals as goal

pub returns-clause-raised : goal.returns-clause-raised
returns-clause-raised c config world reach rm place old new result s raises = raised config world reach rm place old new s result raises

pub returns-clause-restarted : goal.returns-clause-restarted
returns-clause-restarted c config world reach who old new result s restarts = restarted config world reach who old new s result restarts

pub returns-clause-compacted : goal.returns-clause-compacted
returns-clause-compacted c config world reach who old new result s compacts = compacted config world reach who old new s result compacts

pub returns-clause-reopened : goal.returns-clause-reopened
returns-clause-reopened c = reopened_on
