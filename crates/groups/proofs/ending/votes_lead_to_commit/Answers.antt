use Rattle.std.specs.Prelude.{◌≡◌}
use Rattle.safety.specs.Vocabulary.{Stands}
use Rattle.safety.specs.CommitSteps.{committed}
use Rattle.protocol.specs.declared.states.Standing.TheVariants as standings
use Rattle.progress.specs.Runs.{leader_quorum_and_participants}
use Rattle.progress.specs.Outcomes.{status_answer, HaveEnded}
use Rattle.commits.proofs.Committing.{votes_answered, votes_committed}
use Rattle.groups.proofs.Reached.{backed}
use Rattle.groups.proofs.Leading.{leads_in_turns, same_answer, same_end}
use Rattle.groups.proofs.ending.votes_lead_to_commit.Goals as goal

pub returns-clause-answered : goal.returns-clause-answered
returns-clause-answered c config world reach tx inside l few quorum majority ballots at_first voted =
    leads_in_turns config (leader_quorum_and_participants l quorum tx) tx
    (λ after. status_answer config after l tx ≡ Stands standings.Committed)
    (λ a b same. same_answer config tx a b same l (Stands standings.Committed)) world
    (votes_answered config tx l quorum few inside majority world (backed config world reach) ballots at_first voted)

pub returns-clause-committed : goal.returns-clause-committed
returns-clause-committed c config world reach tx inside l few quorum majority ballots at_first voted =
    leads_in_turns config (leader_quorum_and_participants l quorum tx) tx (HaveEnded config tx committed)
    (λ a b same. same_end config tx a b same committed) world
    (votes_committed config tx l quorum few inside majority world (backed config world reach) ballots at_first voted)
