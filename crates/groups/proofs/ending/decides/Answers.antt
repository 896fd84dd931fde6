use Rattle.progress.specs.Runs.{leader_and_quorum}
use Rattle.progress.specs.Outcomes.{HasOutcome}
use Rattle.progress.proofs.Deciding as progress
use Rattle.groups.proofs.Reached.{backed}
use Rattle.groups.proofs.Leading.{leads_in_turns, same_outcome}
use Rattle.groups.proofs.ending.decides.Goals as goal

pub returns : goal.returns
returns c config world reach tx inside l few quorum majority ballots =
    leads_in_turns config (leader_and_quorum l quorum) tx (HasOutcome config l tx) (λ a b same. same_outcome config tx a b same l) world
    (progress.decides config tx l quorum few inside majority world (backed config world reach) ballots)
