use Rattle.history.proofs.SerialReads.{reads_serial}
use Rattle.floored_history.specs.Histories.{floored_history}
use Rattle.floored_history.proofs.Steps.{floored_run}
use Rattle.floored_history.proofs.headline.reads_are_serial.Goals as goal

pub returns : goal.returns
returns c config world reach rm x tx key later before step =
    reads_serial config world.machine (floored_history config world reach) later before step rm x tx key (floored_run config world reach)
