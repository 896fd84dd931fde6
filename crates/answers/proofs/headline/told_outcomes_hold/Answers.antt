use Rattle.answers.proofs.Runs.{prepared_ever, uncommitted_ever}
use Rattle.answers.proofs.headline.told_outcomes_hold.Goals as goal

pub returns-clause-committed : goal.returns-clause-committed
returns-clause-committed c config world reach events tx l told h tells = prepared_ever config tx l told tells world reach events h

pub returns-clause-aborted : goal.returns-clause-aborted
returns-clause-aborted c config world reach events tx l told h tells = uncommitted_ever config tx l told tells world reach events h
