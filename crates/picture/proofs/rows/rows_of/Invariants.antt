use Rattle.std.proofs.Common.{◌≡◌, [], fold, take}
use Rattle.picture.specs.Rows.{with_entry}
use Rattle.picture.proofs.rows.rows_of.Given as goal

abbrev pub invariant-loop-entry : goal.invariant-loop-entry
invariant-loop-entry l = l.rows.items ≡ fold (with_entry l.first l.several) [] (take l.entry-index l.entries)
