use Rattle.floored_groups.proofs.Telling.{none_aborted, none_committed}
use Rattle.floored_groups.proofs.cluster.told_outcomes_hold.Goals as goal

pub returns-clause-committed : goal.returns-clause-committed
returns-clause-committed c config all run tx l told h tells r named among mine view =
    none_aborted config all run tx l told h r named among mine tells view

pub returns-clause-aborted : goal.returns-clause-aborted
returns-clause-aborted c config all run tx l told h tells r named among mine view =
    none_committed config all run tx l told h r named among mine tells view
