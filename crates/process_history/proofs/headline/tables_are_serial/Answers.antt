use Rattle.process_history.proofs.SerialTables.{are_serial}
use Rattle.process_history.proofs.headline.tables_are_serial.Goals as goal

pub returns : goal.returns
returns c = are_serial
