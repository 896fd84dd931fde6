use Rattle.protocol.specs.Worlds.{opening, world_after}
use Rattle.history.specs.Lines.{history}
use Rattle.history.proofs.Runs.{run_is}
use Rattle.history.proofs.SerialTables.{conflict_ordered}
use Rattle.history.proofs.serial.conflicts_are_ordered.Goals as goal

pub returns : goal.returns
returns c config events rm =
    conflict_ordered config (world_after config (opening config) events) (history config events) rm (run_is config events)
