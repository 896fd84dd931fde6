use Rattle.std.proofs.Common.{arith}
use Rattle.std.proofs.lemmas.List.{get_or_default}
use Rattle.std.proofs.lemmas.List.Edits.{map_over_more}
use Rattle.leader.specs.Courses.{with_nothing_reported}
use Rattle.leader.proofs.course.forget_all_reports.Goals as goal

pub loop-row-preserved : goal.loop-row-preserved
loop-row-preserved c = grind (arith, map_over_more with_nothing_reported, get_or_default, c.forget_reports.ensures)
