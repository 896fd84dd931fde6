use Rattle.floors.proofs.Following.{are_runs}
use Rattle.floors.proofs.Ends.{decided}
use Rattle.floors.proofs.ending.decides.Goals as goal

pub returns : goal.returns
returns c config world reach tx inside l few quorum majority at_hand ballots =
    decided config tx l quorum few inside majority world (are_runs config world reach) at_hand ballots
