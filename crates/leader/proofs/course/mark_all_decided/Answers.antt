use Rattle.std.proofs.Common.{arith}
use Rattle.std.proofs.lemmas.List.{get_or_default}
use Rattle.std.proofs.lemmas.List.Edits.{map_over_more}
use Rattle.leader.specs.Courses.{with_decided}
use Rattle.leader.proofs.course.mark_all_decided.Goals as goal

pub loop-row-preserved : goal.loop-row-preserved
loop-row-preserved c = grind (arith, map_over_more (with_decided c.args.instance c.args.vote), get_or_default, c.mark_decided.ensures)
