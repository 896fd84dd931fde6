use Rattle.picture.specs.Drawing.{carried_view}
use Rattle.picture.proofs.Loops.{range_step}
use Rattle.picture.proofs.backdrop.draw_carried.Goals as goal

pub loop-rm-preserved : goal.loop-rm-preserved
loop-rm-preserved c =
    range_step (carried_view c.args.lines c.args.views.now.rows.now c.args.page) c.loop-rm.rm c.args.out.now.items c.loop-rm.out.items
    c.draw_carried_view.new.out.items c.loop-rm.invariant c.in_ok-draw_carried_view.ensures.ok
