use Rattle.std.proofs.Common.{◌≡◌, true, take}
use Rattle.std.specs.List.{list_all}
use Rattle.branch_table.specs.TableStates.{are_rows}
use Rattle.node_core.proofs.config.are_tables.Given as goal

abbrev pub invariant-loop-rows : goal.invariant-loop-rows
invariant-loop-rows l = list_all are_rows (take l.rows-index l.tables) ≡ true
