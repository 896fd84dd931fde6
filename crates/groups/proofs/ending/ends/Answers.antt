use Rattle.std.specs.Prelude.{◌⊎◌}
use Rattle.safety.specs.CommitSteps.{committed, aborted}
use Rattle.progress.specs.Runs.{leader_quorum_and_participants}
use Rattle.progress.specs.Outcomes.{HaveEnded}
use Rattle.progress.proofs.Ended as progress
use Rattle.groups.proofs.Reached.{backed}
use Rattle.groups.proofs.Leading.{leads_in_turns, same_end_of_two}
use Rattle.groups.proofs.ending.ends.Goals as goal

pub returns : goal.returns
returns c config world reach tx inside l few quorum majority ballots =
    leads_in_turns config (leader_quorum_and_participants l quorum tx) tx
    (λ after. HaveEnded config tx committed after ⊎ HaveEnded config tx aborted after)
    (λ a b same. same_end_of_two config tx a b same committed aborted) world
    (progress.ends config tx l quorum few inside majority world (backed config world reach) ballots)
