use Rattle.std.proofs.Common.{◌∙◌, subst}
use Rattle.leader.specs.Places.{CoursesParts, IsLeft}
use Rattle.leader.proofs.courses.Courses.above.Goals as goal

pub returns-clause-ok : goal.returns-clause-ok
returns-clause-ok c =
    subst (λ (old : CoursesParts). IsLeft c.args.floor.now old c.begin_above.new.self) c.self.view_is
    (record {
      courses_are = λ tx. c.in_ok-begin_above.ensures.courses tx ∙ c.in_ok-put_above.ensures.courses tx;
      begun_are = c.in_ok-begin_above.ensures.begun;
    })
