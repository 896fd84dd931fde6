use Rattle.std.proofs.Common.{◌≡◌, true}
use Rattle.branch_table.specs.TableStates.{are_rows}
use Rattle.cases.proofs.tables.rows.Given as goal

abbrev pub invariant-loop-word : goal.invariant-loop-word
invariant-loop-word l = are_rows l.rows.items ≡ true
