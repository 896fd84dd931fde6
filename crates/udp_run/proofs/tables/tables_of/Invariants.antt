use Rattle.udp_run.proofs.Shown.{HaveShownTables}
use Rattle.udp_run.proofs.tables.tables_of.Given as goal

abbrev pub invariant-loop-at : goal.invariant-loop-at
invariant-loop-at g l = HaveShownTables l.at l.fn.nodes.items l.nodes.items l.tables.items
