use Rattle.std.proofs.Common.{◌∙◌, get_or, sym, ap, arith, rules}
use Rattle.std.proofs.lemmas.Iterator.Adapters.{YieldsList-from_vec}
use Rattle.std.proofs.lemmas.Iterator.Consumers.{YieldsList-end, YieldsList-turn}
use Rattle.std.proofs.lemmas.List.{length_push}
use Rattle.std.proofs.lemmas.Option.{get_or_from_slice_get}
use Rattle.transactions.specs.Seen.{no_transaction}
use Rattle.leader.proofs.Left.{courses_left, has_no_place, left_out, put_there}
use Rattle.leader.proofs.courses.Courses.put_above.Goals as goal

pub loop-course-preserved-then-is_below : goal.loop-course-preserved-then-is_below
loop-course-preserved-then-is_below c =
    let ts = c.args.transactions.now in
    let turn = YieldsList-turn
    (YieldsList-from_vec {s = c.into_iter-course-iterator.result} c.args.rows.items (search rules) (search rules)) c.loop-course.yielded
    c.loop-course.course-iterator c.loop-course.yielded_by c.next.result c.next.new.self c.in-Some.course c.in-Some.is
    c.next.ensures.steps in (
      omega (arith, c.loop-course.invariant.0, length_push c.loop-course.yielded c.in-Some.course),
      left_out c.args.floor.now ts c.args.rows.items c.args.self.now.begun c.loop-course.place c.in-Some-view.tx c.len.ensures.distinct
          (omega (arith, turn.0, c.loop-course.invariant.0, c.requires.each))
          (get_or_from_slice_get ts c.loop-course.place c.in-Some-view.tx no_transaction (sym c.in-Some-view.ensures)) c.loop-course.self
          (sym c.is_below.ensures ∙ c.if-is_below.true) c.loop-course.invariant.1,
    )

pub put-requires : goal.put-requires
put-requires c =
    let ts = c.args.transactions.now in
    let turn = YieldsList-turn
    (YieldsList-from_vec {s = c.into_iter-course-iterator.result} c.args.rows.items (search rules) (search rules)) c.loop-course.yielded
    c.loop-course.course-iterator c.loop-course.yielded_by c.next.result c.next.new.self c.in-Some.course c.in-Some.is
    c.next.ensures.steps in
    has_no_place c.args.floor.now ts c.args.rows.items c.args.self.now.begun c.loop-course.place c.in-Some-view.tx c.len.ensures.distinct
    (omega (arith, turn.0, c.loop-course.invariant.0, c.requires.each))
    (get_or_from_slice_get ts c.loop-course.place c.in-Some-view.tx no_transaction (sym c.in-Some-view.ensures))
    (sym c.is_below.ensures ∙ c.if-is_below.false) c.loop-course.self c.loop-course.invariant.1

pub loop-course-preserved : goal.loop-course-preserved
loop-course-preserved c =
    let ts = c.args.transactions.now in
    let turn = YieldsList-turn
    (YieldsList-from_vec {s = c.into_iter-course-iterator.result} c.args.rows.items (search rules) (search rules)) c.loop-course.yielded
    c.loop-course.course-iterator c.loop-course.yielded_by c.next.result c.next.new.self c.in-Some.course c.in-Some.is
    c.next.ensures.steps in (
      omega (arith, c.loop-course.invariant.0, length_push c.loop-course.yielded c.in-Some.course),
      put_there c.args.floor.now ts c.args.rows.items c.args.self.now.begun c.loop-course.place c.in-Some-view.tx c.len.ensures.distinct
          (omega (arith, turn.0, c.loop-course.invariant.0, c.requires.each))
          (get_or_from_slice_get ts c.loop-course.place c.in-Some-view.tx no_transaction (sym c.in-Some-view.ensures))
          (sym c.is_below.ensures ∙ c.if-is_below.false) c.loop-course.self c.loop-course.invariant.1 c.in-Some.course
          (omega (arith, turn.0, c.loop-course.invariant.0))
          (turn.1 ∙ ap (λ k. get_or c.args.rows.items k c.in-Some.course) (sym c.loop-course.invariant.0)) c.put.new.self
          c.in_ok-put.ensures.now,
    )

pub returns-clause-courses : goal.returns-clause-courses
returns-clause-courses c =
    let end = YieldsList-end (YieldsList-from_vec {s = c.into_iter-course-iterator.result} c.args.rows.items (search rules) (search rules))
    c.loop-course.yielded c.loop-course.course-iterator c.loop-course.yielded_by c.next.result c.next.new.self c.in-None.is
    c.next.ensures.steps in
    courses_left c.args.floor.now c.args.transactions.now c.args.rows.items c.args.self.now.begun c.loop-course.place c.loop-course.self
    c.requires.each (omega (arith, end.1, c.loop-course.invariant.0, c.requires.each)) c.loop-course.invariant.1
