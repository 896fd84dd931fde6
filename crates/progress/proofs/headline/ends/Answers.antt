use Rattle.progress.proofs.Backed.{backed}
use Rattle.progress.proofs.Ended.{ends}
use Rattle.progress.proofs.headline.ends.Goals as goal

pub returns : goal.returns
returns c config world reach tx inside l few quorum majority ballots =
    ends config tx l quorum few inside majority world (backed config world reach) ballots
