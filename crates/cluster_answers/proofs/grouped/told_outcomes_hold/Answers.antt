use Rattle.cluster_answers.proofs.InGroups.{prepared_now, uncommitted_now}
use Rattle.cluster_answers.proofs.grouped.told_outcomes_hold.Goals as goal

pub returns-clause-committed : goal.returns-clause-committed
returns-clause-committed c config world reach tx l told h tells = prepared_now config world reach tx l told h tells

pub returns-clause-aborted : goal.returns-clause-aborted
returns-clause-aborted c config world reach tx l told h tells = uncommitted_now config world reach tx l told h tells
