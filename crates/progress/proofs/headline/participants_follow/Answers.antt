use Rattle.progress.proofs.Backed.{backed}
use Rattle.progress.proofs.Ended.{ends_committed, ends_aborted}
use Rattle.progress.proofs.headline.participants_follow.Goals as goal

pub returns-clause-committed : goal.returns-clause-committed
returns-clause-committed c config world reach tx inside l told = ends_committed config l tx inside world (backed config world reach) told

pub returns-clause-aborted : goal.returns-clause-aborted
returns-clause-aborted c config world reach tx inside l told = ends_aborted config l tx inside world (backed config world reach) told
