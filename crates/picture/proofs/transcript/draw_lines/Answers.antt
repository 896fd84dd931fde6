use Rattle.std.proofs.Common.{arith}
use Rattle.std.proofs.lemmas.Bool.Decides.{nat_tests}
use Rattle.picture.proofs.Lines.{line_step, last_step}
use Rattle.picture.proofs.transcript.draw_lines.Goals as goal

pub loop-line-preserved : goal.loop-line-preserved
loop-line-preserved c =
    line_step c.loop-line.number c.saturating_add-number.result c.loop-line.rest.now c.in-Some.line.now c.in-Some.after.now _
    c.loop-line.out.items c.draw_line.new.out.items c.in-Some.ensures c.loop-line.invariant c.in_ok-draw_line.ensures.ok
    c.saturating_add-number.ensures

pub returns-in_ok-draw_line-2-clause-ok : goal.returns-in_ok-draw_line-2-clause-ok
returns-in_ok-draw_line-2-clause-ok c =
    last_step c.loop-line.number c.loop-line.rest.now _ c.loop-line.out.items c.draw_line-then-not-is_empty.new.out.items
    (grind (arith, nat_tests))
    c.in_default.ensures c.loop-line.invariant c.in_ok-draw_line-2.ensures.ok
