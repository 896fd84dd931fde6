use Rattle.picture.specs.Drawing.{lane_on}
use Rattle.picture.proofs.Loops.{range_step}
use Rattle.picture.proofs.backdrop.draw_lanes.Goals as goal

pub loop-number-preserved : goal.loop-number-preserved
loop-number-preserved c =
    range_step (lane_on c.args.page c.args.lines c.args.letter c.args.first c.args.second) c.loop-number.number c.args.out.now.items
    c.loop-number.out.items c.draw_lane_on.new.out.items c.loop-number.invariant c.in_ok-draw_lane_on.ensures.ok
