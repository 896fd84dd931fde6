use Rattle.progress.proofs.Backed.{backed}
use Rattle.progress.proofs.Deciding.{decides}
use Rattle.progress.proofs.headline.decides.Goals as goal

pub returns : goal.returns
returns c config world reach tx inside l few quorum majority ballots =
    decides config tx l quorum few inside majority world (backed config world reach) ballots
