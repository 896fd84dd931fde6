use Rattle.protocol.specs.Worlds.{opening, world_after}
use Rattle.history.specs.Lines.{history}
use Rattle.history.proofs.Runs.{run_is}
use Rattle.history.proofs.SerialReads.{reads_serial}
use Rattle.history.proofs.serial.reads_are_serial.Goals as goal

pub returns : goal.returns
returns c config events rm x tx key later before step =
    reads_serial config (world_after config (opening config) events) (history config events) later before step rm x tx key
    (run_is config events)
