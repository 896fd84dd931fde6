use Rattle.std.proofs.Common.{◌≡◌, true, take}
use Rattle.branch_table.specs.TableStates.{are_rows}
use Rattle.node_core.proofs.config.are_within.Given as goal

abbrev pub invariant-loop-row : goal.invariant-loop-row
invariant-loop-row l = are_rows (take l.row-index l.rows) ≡ true
