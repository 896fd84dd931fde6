use Rattle.progress.specs.Runs.{leader_and_quorum}
use Rattle.floors.specs.Runs.{HasFlooredOutcome}
use Rattle.floors.proofs.Ends.{decided}
use Rattle.floors.proofs.Following.{are_runs}
use Rattle.cluster_progress.proofs.Handing.{leads_on}
use Rattle.cluster_progress.proofs.headline.can_decide.Goals as goal

pub returns : goal.returns
returns c config world reach tx inside l few quorum majority at_hand ballots cluster stands =
    leads_on config (leader_and_quorum l quorum) tx (HasFlooredOutcome config l tx) world
    (decided config tx l quorum few inside majority world (are_runs config world reach) at_hand ballots) cluster stands
