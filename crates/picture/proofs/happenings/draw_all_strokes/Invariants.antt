use Rattle.std.proofs.Common.{◌≡◌, ◌++◌, take}
use Rattle.std.specs.List.{flat_map}
use Rattle.picture.specs.Drawing.{stroke_elements}
use Rattle.picture.proofs.happenings.draw_all_strokes.Given as goal

abbrev pub invariant-loop-row : goal.invariant-loop-row
invariant-loop-row l = l.out.items ≡ l.fn.out.items ++ flat_map (stroke_elements l.sizes l.rows) (take l.row-index l.all)
