use Rattle.std.proofs.Common.{◌≡◌, ◌++◌, map, take, drop}
use Rattle.leader.specs.Courses.{with_proposals}
use Rattle.leader.proofs.course.mark_all_proposed.Given as goal

abbrev pub invariant-loop-row : goal.invariant-loop-row
invariant-loop-row l = l.rows ≡ map (with_proposals l.proposals) (take l.row-index l.initial.rows) ++ drop l.row-index l.initial.rows
