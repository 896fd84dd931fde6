use Rattle.std.specs.Prelude.{◌⊎◌}
use Rattle.safety.specs.CommitSteps.{committed, aborted}
use Rattle.floors.specs.Runs.{HaveEndedAbove, leader_quorum_and_unforgetting}
use Rattle.floors.proofs.Ends.{ended}
use Rattle.floors.proofs.Following.{are_runs}
use Rattle.cluster_progress.proofs.Handing.{leads_on}
use Rattle.cluster_progress.proofs.headline.can_end.Goals as goal

pub returns : goal.returns
returns c config world reach tx inside l few quorum majority at_hand ballots cluster stands =
    leads_on config (leader_quorum_and_unforgetting world l quorum tx) tx
    (λ after. HaveEndedAbove config tx committed after ⊎ HaveEndedAbove config tx aborted after) world
    (ended config tx l quorum few inside majority world (are_runs config world reach) at_hand ballots) cluster stands
