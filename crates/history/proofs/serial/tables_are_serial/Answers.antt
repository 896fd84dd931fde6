use Rattle.std.proofs.Common.{◌∙◌, sym}
use Rattle.protocol.specs.Nodes.{first_rows}
use Rattle.protocol.specs.Worlds.{opening, world_after}
use Rattle.history.specs.Lines.{history}
use Rattle.history.proofs.Runs.{run_is}
use Rattle.history.proofs.Laws.{table_looked_back, looked_table}
use Rattle.history.proofs.SerialTables.{serial_is}
use Rattle.history.proofs.serial.tables_are_serial.Goals as goal

pub returns : goal.returns
returns c config events rm node stands =
    table_looked_back config (world_after config (opening config) events) (history config events) rm (run_is config events) node stands
    ∙ sym (looked_table config (world_after config (opening config) events) (history config events) rm (run_is config events)
    (first_rows config rm))
    ∙ serial_is config (world_after config (opening config) events) (history config events) rm (run_is config events) (first_rows config rm)
