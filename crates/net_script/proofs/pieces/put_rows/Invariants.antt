use Rattle.std.proofs.Common.{◌≡◌, ◌++◌, take}
use Rattle.net_script.specs.Items.{rows_words}
use Rattle.net_script.specs.Traces.{spaced_words}
use Rattle.net_script.proofs.pieces.put_rows.Given as goal

abbrev pub invariant-loop-row : goal.invariant-loop-row
invariant-loop-row l = l.out.items ≡ l.fn.out.items ++ spaced_words (rows_words (take l.row-index l.rows))
