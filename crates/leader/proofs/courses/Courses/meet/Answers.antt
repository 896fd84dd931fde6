use Rattle.std.specs.List.{slice_set}
use Rattle.leader.specs.Courses.{after_meeting}
use Rattle.leader.proofs.PlaceSteps.{changed_at, after_made, courses_at}
use Rattle.leader.proofs.courses.Courses.meet.Goals as goal

pub returns-clause-now : goal.returns-clause-now
returns-clause-now c =
    after_made c.args.self.now c.make_place.new.self
    (courses_at c.self.inside.transactions (slice_set c.self.inside.rows.items c.in-Ok.place c.meet.new.self) c.self.inside.begun)
    c.args.tx.now after_meeting c.in-Ok.ensures.kept
    (changed_at c.self.inside.transactions c.self.inside.rows.items c.self.inside.begun c.self.invariant c.args.tx.now c.make_place.new.self
    c.self.view_is
    after_meeting c.in-Ok.place c.index_mut-course.result.now c.meet.new.self c.in-Ok.ensures.there c.index_mut-course.ensures.value
    c.meet.ensures)
