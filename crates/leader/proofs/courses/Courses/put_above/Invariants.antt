use Rattle.std.proofs.Common.{◌≡◌, length, not, take, Some}
use Rattle.std.specs.Prelude.{filter}
use Rattle.xid.specs.Places.{is_below}
use Rattle.leader.proofs.Left.{HasCoursesOf, row_in}
use Rattle.leader.proofs.courses.Courses.put_above.Given as goal

abbrev pub invariant-loop-course : goal.invariant-loop-course
invariant-loop-course l =
    (l.place ≡ length l.yielded)
    × HasCoursesOf (row_in l.transactions l.fn.rows.items)
    (filter (λ tx. not (is_below (Some l.floor) tx)) (take l.place l.transactions)) l.fn.self.begun l.self
