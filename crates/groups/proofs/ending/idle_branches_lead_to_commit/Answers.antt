use Rattle.std.specs.Prelude.{◌≡◌}
use Rattle.std.proofs.Common.{sym, subst}
use Rattle.safety.specs.Vocabulary.{L, Stands}
use Rattle.safety.specs.CommitSteps.{committed}
use Rattle.protocol.specs.declared.requests.Request.TheVariants as requests
use Rattle.protocol.specs.declared.states.Standing.TheVariants as standings
use Rattle.protocol.specs.Nodes.{Asked}
use Rattle.protocol.specs.Worlds.{World}
use Rattle.progress.specs.Runs.{leader_quorum_and_participants}
use Rattle.progress.specs.Outcomes.{status_answer, HaveEnded}
use Rattle.commits.specs.Idle.{after_request}
use Rattle.commits.proofs.Requesting.{request_answered, request_committed}
use Rattle.groups.specs.Turns.{LeadsInTurns}
use Rattle.groups.proofs.Reached.{backed}
use Rattle.groups.proofs.Taking.{move_taken}
use Rattle.groups.proofs.Leading.{leads_in_turns, same_answer, same_end}
use Rattle.groups.proofs.ending.idle_branches_lead_to_commit.Goals as goal

pub returns-clause-answered : goal.returns-clause-answered
returns-clause-answered c config world reach tx inside l few quorum majority ballots at_first idle leader =
    subst (λ (asked : World). LeadsInTurns config (leader_quorum_and_participants l quorum tx) tx
    (λ after. status_answer config after l tx ≡ Stands standings.Committed) asked)
    (sym (move_taken config world (L l) (Asked (requests.Commit tx))))
    (leads_in_turns config (leader_quorum_and_participants l quorum tx) tx
    (λ after. status_answer config after l tx ≡ Stands standings.Committed)
    (λ a b same. same_answer config tx a b same l (Stands standings.Committed)) (after_request config world l tx)
    (request_answered config tx l quorum few inside majority world (backed config world reach) ballots at_first idle leader))

pub returns-clause-committed : goal.returns-clause-committed
returns-clause-committed c config world reach tx inside l few quorum majority ballots at_first idle leader =
    subst (λ (asked : World). LeadsInTurns config (leader_quorum_and_participants l quorum tx) tx (HaveEnded config tx committed) asked)
    (sym (move_taken config world (L l) (Asked (requests.Commit tx))))
    (leads_in_turns config (leader_quorum_and_participants l quorum tx) tx (HaveEnded config tx committed)
    (λ a b same. same_end config tx a b same committed) (after_request config world l tx)
    (request_committed config tx l quorum few inside majority world (backed config world reach) ballots at_first idle leader))
