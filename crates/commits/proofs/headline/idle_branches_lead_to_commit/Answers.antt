use Rattle.progress.proofs.Backed.{backed}
use Rattle.commits.proofs.Requesting.{request_answered, request_committed}
use Rattle.commits.proofs.headline.idle_branches_lead_to_commit.Goals as goal

pub returns-clause-answered : goal.returns-clause-answered
returns-clause-answered c config world reach tx inside l few quorum majority ballots at_first idle leader =
    request_answered config tx l quorum few inside majority world (backed config world reach) ballots at_first idle leader

pub returns-clause-committed : goal.returns-clause-committed
returns-clause-committed c config world reach tx inside l few quorum majority ballots at_first idle leader =
    request_committed config tx l quorum few inside majority world (backed config world reach) ballots at_first idle leader
