use Rattle.std.proofs.Common.{◌≡◌, ◌++◌, take}
use Rattle.std.specs.List.{flat_map}
use Rattle.picture.specs.Drawing.{change_elements}
use Rattle.picture.proofs.backdrop.draw_changes.Given as goal

abbrev pub invariant-loop-row : goal.invariant-loop-row
invariant-loop-row l = l.out.items ≡ l.fn.out.items ++ flat_map (change_elements l.lines) (take l.row-index l.rows)
