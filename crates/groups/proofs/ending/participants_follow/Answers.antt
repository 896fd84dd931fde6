use Rattle.safety.specs.CommitSteps.{committed, aborted}
use Rattle.progress.specs.Runs.{leader_and_participants}
use Rattle.progress.specs.Outcomes.{HaveEnded}
use Rattle.progress.proofs.Ended.{ends_committed, ends_aborted}
use Rattle.groups.proofs.Reached.{backed}
use Rattle.groups.proofs.Leading.{leads_in_turns, same_end}
use Rattle.groups.proofs.ending.participants_follow.Goals as goal

pub returns-clause-committed : goal.returns-clause-committed
returns-clause-committed c config world reach tx inside l told =
    leads_in_turns config (leader_and_participants l tx) tx (HaveEnded config tx committed)
    (λ a b same. same_end config tx a b same committed) world (ends_committed config l tx inside world (backed config world reach) told)

pub returns-clause-aborted : goal.returns-clause-aborted
returns-clause-aborted c config world reach tx inside l told =
    leads_in_turns config (leader_and_participants l tx) tx (HaveEnded config tx aborted)
    (λ a b same. same_end config tx a b same aborted) world (ends_aborted config l tx inside world (backed config world reach) told)
