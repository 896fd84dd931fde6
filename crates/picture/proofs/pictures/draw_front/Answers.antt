use Rattle.picture.proofs.Ordered.{rows_ascend}
use Rattle.picture.proofs.pictures.draw_front.Goals as goal

pub new-requires : goal.new-requires
new-requires c = rows_ascend c.args.trace.now c.args.rows.now c.requires
