use Rattle.std.proofs.Common.{◌∙◌, sym}
use Rattle.protocol.specs.Nodes.{first_rows}
use Rattle.history.proofs.Laws.{table_looked_back, looked_table}
use Rattle.history.proofs.SerialTables.{serial_is}
use Rattle.floored_history.specs.Histories.{floored_history}
use Rattle.floored_history.proofs.Steps.{floored_run}
use Rattle.floored_history.proofs.headline.tables_are_serial.Goals as goal

pub returns-clause-serial : goal.returns-clause-serial
returns-clause-serial c config world reach rm node stands =
    let history = floored_history config world reach in
    let run = floored_run config world reach in
    table_looked_back config world.machine history rm run node stands
    ∙ sym (looked_table config world.machine history rm run (first_rows config rm))
    ∙ serial_is config world.machine history rm run (first_rows config rm)

pub returns-clause-back : goal.returns-clause-back
returns-clause-back c config world reach rm =
    table_looked_back config world.machine (floored_history config world reach) rm (floored_run config world reach)
