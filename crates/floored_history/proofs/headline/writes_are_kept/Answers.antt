use Rattle.history.proofs.Laws as laws
use Rattle.floored_history.specs.Histories.{floored_history}
use Rattle.floored_history.proofs.Steps.{floored_run}
use Rattle.floored_history.proofs.headline.writes_are_kept.Goals as goal

pub returns-clause-voted : goal.returns-clause-voted
returns-clause-voted c config world reach rm =
    laws.voted_writes config world.machine (floored_history config world reach) rm (floored_run config world reach)

pub returns-clause-unprepared : goal.returns-clause-unprepared
returns-clause-unprepared c config world reach rm =
    laws.unprepared_writes config world.machine (floored_history config world reach) rm (floored_run config world reach)
