use Rattle.std.proofs.Common.{◌≡◌, ◌++◌}
use Rattle.picture.specs.Drawing.{carried_elements}
use Rattle.picture.proofs.backdrop.draw_carried.Given as goal

abbrev pub invariant-loop-rm : goal.invariant-loop-rm
invariant-loop-rm l = l.out.items ≡ l.fn.out.items ++ carried_elements l.lines l.views.rows.now l.page l.rm
