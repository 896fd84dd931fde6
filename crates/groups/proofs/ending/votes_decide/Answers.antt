use Rattle.std.specs.Prelude.{◌≡◌}
use Rattle.protocol.specs.declared.states.Standing.TheVariants as standings
use Rattle.safety.specs.Vocabulary.{Stands}
use Rattle.progress.specs.Runs.{leader_and_quorum}
use Rattle.progress.specs.Outcomes.{status_answer}
use Rattle.progress.proofs.Lasting.{commits, aborts}
use Rattle.groups.proofs.Reached.{backed}
use Rattle.groups.proofs.Leading.{leads_in_turns, same_answer}
use Rattle.groups.proofs.ending.votes_decide.Goals as goal

pub returns-clause-committed : goal.returns-clause-committed
returns-clause-committed c config world reach tx inside l few quorum majority ballots accepted =
    leads_in_turns config (leader_and_quorum l quorum) tx (λ after. status_answer config after l tx ≡ Stands standings.Committed)
    (λ a b same. same_answer config tx a b same l (Stands standings.Committed)) world
    (commits config tx l quorum few inside majority world (backed config world reach) ballots accepted)

pub returns-clause-aborted : goal.returns-clause-aborted
returns-clause-aborted c config world reach tx inside l few quorum majority ballots r named unvoted =
    leads_in_turns config (leader_and_quorum l quorum) tx (λ after. status_answer config after l tx ≡ Stands standings.Aborted)
    (λ a b same. same_answer config tx a b same l (Stands standings.Aborted)) world
    (aborts config tx l quorum few inside majority world (backed config world reach) ballots r named unvoted)
