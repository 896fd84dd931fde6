use Rattle.history.proofs.SerialTables.{conflict_ordered}
use Rattle.floored_history.specs.Histories.{floored_history}
use Rattle.floored_history.proofs.Steps.{floored_run}
use Rattle.floored_history.proofs.headline.conflicts_are_ordered.Goals as goal

pub returns : goal.returns
returns c config world reach rm =
    conflict_ordered config world.machine (floored_history config world reach) rm (floored_run config world reach)
