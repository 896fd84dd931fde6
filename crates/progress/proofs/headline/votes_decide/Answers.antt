use Rattle.progress.proofs.Backed.{backed}
use Rattle.progress.proofs.Lasting.{commits, aborts}
use Rattle.progress.proofs.headline.votes_decide.Goals as goal

pub returns-clause-committed : goal.returns-clause-committed
returns-clause-committed c config world reach tx inside l few quorum majority ballots =
    commits config tx l quorum few inside majority world (backed config world reach) ballots

pub returns-clause-aborted : goal.returns-clause-aborted
returns-clause-aborted c config world reach tx inside l few quorum majority ballots =
    aborts config tx l quorum few inside majority world (backed config world reach) ballots
