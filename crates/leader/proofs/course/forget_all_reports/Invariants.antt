use Rattle.std.proofs.Common.{◌≡◌, ◌++◌, map, take, drop}
use Rattle.leader.specs.Courses.{with_nothing_reported}
use Rattle.leader.proofs.course.forget_all_reports.Given as goal

abbrev pub invariant-loop-row : goal.invariant-loop-row
invariant-loop-row l = l.rows ≡ map (with_nothing_reported) (take l.row-index l.initial.rows) ++ drop l.row-index l.initial.rows
