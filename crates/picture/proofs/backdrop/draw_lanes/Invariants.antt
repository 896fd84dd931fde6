use Rattle.std.proofs.Common.{◌≡◌, ◌++◌}
use Rattle.picture.specs.Drawing.{lanes_elements}
use Rattle.picture.proofs.backdrop.draw_lanes.Given as goal

abbrev pub invariant-loop-number : goal.invariant-loop-number
invariant-loop-number l = l.out.items ≡ l.fn.out.items ++ lanes_elements l.page l.lines l.letter l.first l.second l.number
