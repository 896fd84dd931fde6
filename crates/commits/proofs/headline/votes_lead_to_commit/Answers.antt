use Rattle.progress.proofs.Backed.{backed}
use Rattle.commits.proofs.Committing.{votes_answered, votes_committed}
use Rattle.commits.proofs.headline.votes_lead_to_commit.Goals as goal

pub returns-clause-answered : goal.returns-clause-answered
returns-clause-answered c config world reach tx inside l few quorum majority ballots at_first voted =
    votes_answered config tx l quorum few inside majority world (backed config world reach) ballots at_first voted

pub returns-clause-committed : goal.returns-clause-committed
returns-clause-committed c config world reach tx inside l few quorum majority ballots at_first voted =
    votes_committed config tx l quorum few inside majority world (backed config world reach) ballots at_first voted
