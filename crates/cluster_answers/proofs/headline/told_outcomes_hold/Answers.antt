use Rattle.cluster_answers.proofs.Clusters.{prepared_at_end, uncommitted_at_end}
use Rattle.cluster_answers.proofs.headline.told_outcomes_hold.Goals as goal

pub returns-clause-committed : goal.returns-clause-committed
returns-clause-committed c config world reach first last steps stands occurred tx l told h tells =
    prepared_at_end first last steps occurred tx config world reach stands l told h tells

pub returns-clause-aborted : goal.returns-clause-aborted
returns-clause-aborted c config world reach first last steps stands occurred tx l told h tells =
    uncommitted_at_end first last steps occurred tx config world reach stands l told h tells
