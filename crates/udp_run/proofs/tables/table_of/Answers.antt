use Rattle.std.proofs.Common.{sym}
use Rattle.udp_run.proofs.Shown.{table_untold}
use Rattle.udp_run.proofs.tables.table_of.Goals as goal

pub returns-in-Err-clause-err : goal.returns-in-Err-clause-err
returns-in-Err-clause-err g c =
    table_untold c.in-R.field-0 c.sizes.result c.args.node.now c.table.new.self c.in-Err.refusal (sym c.in-R.ensures) c.sizes.ensures
    c.in-Err.ensures.tables
