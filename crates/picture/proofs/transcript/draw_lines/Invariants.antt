use Rattle.std.proofs.Common.{◌≡◌, ◌++◌, length}
use Rattle.net_script.specs.Lines.{lines}
use Rattle.picture.specs.Drawing.{lines_elements}
use Rattle.picture.proofs.transcript.draw_lines.Given as goal

abbrev pub invariant-loop-line : goal.invariant-loop-line
invariant-loop-line l =
    l.fn.out.items ++ lines_elements 1 (lines l.bytes) ≡ l.out.items ++ lines_elements l.number (lines l.rest)

abbrev pub decreases-loop-line : goal.decreases-loop-line
decreases-loop-line l = length l.rest
