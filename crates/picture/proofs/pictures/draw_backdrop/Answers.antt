use Rattle.picture.proofs.Ordered.{rows_ascend}
use Rattle.picture.proofs.pictures.draw_backdrop.Goals as goal

pub draw_pages-requires : goal.draw_pages-requires
draw_pages-requires c = rows_ascend c.args.trace.now c.args.rows.now c.requires
