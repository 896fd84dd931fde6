use Rattle.floors.proofs.Following.{are_runs}
use Rattle.floors.proofs.Ends.{follow_committed, follow_aborted}
use Rattle.floors.proofs.ending.participants_follow.Goals as goal

pub returns-clause-committed : goal.returns-clause-committed
returns-clause-committed c config world reach tx inside l above =
    follow_committed config tx l inside world (are_runs config world reach) above

pub returns-clause-aborted : goal.returns-clause-aborted
returns-clause-aborted c config world reach tx inside l above = follow_aborted config tx l inside world (are_runs config world reach) above
