use Rattle.std.proofs.Common.{◌≡◌, [], ◌∷◌, ◌++◌, map, take, drop}
use Rattle.leader.specs.Courses.{with_reports}
use Rattle.leader.proofs.course.hear_one_report.Given as goal

abbrev pub invariant-loop-row : goal.invariant-loop-row
invariant-loop-row l =
    l.rows ≡ map (with_reports l.acceptor (l.item ∷ [])) (take l.row-index l.initial.rows) ++ drop l.row-index l.initial.rows
