use Rattle.progress.specs.Runs.{leader_quorum_and_participants}
use Rattle.safety.specs.CommitSteps.{committed}
use Rattle.progress.specs.Outcomes.{HaveEnded}
use Rattle.cluster_progress.specs.Handing.{after_asked}
use Rattle.cluster_progress.proofs.Committing.{asked_committed, voted_committed}
use Rattle.cluster_progress.proofs.Handing.{leads_on}
use Rattle.cluster_progress.proofs.headline.can_commit.Goals as goal

pub returns-clause-voted : goal.returns-clause-voted
returns-clause-voted c config world reach tx inside l few quorum majority none ballots at_first voted cluster stands =
    leads_on config (leader_quorum_and_participants l quorum tx) tx (λ after. HaveEnded config tx committed after.machine) world
    (voted_committed config tx l quorum few inside majority world reach none ballots at_first voted) cluster stands

pub returns-clause-asked : goal.returns-clause-asked
returns-clause-asked c config world reach tx inside l few quorum majority none ballots at_first idle leader cluster stands =
    leads_on config (leader_quorum_and_participants l quorum tx) tx (λ after. HaveEnded config tx committed after.machine)
    (after_asked config world l tx)
    (asked_committed config tx l quorum few inside majority world reach none ballots at_first idle leader) cluster stands
