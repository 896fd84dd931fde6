use Rattle.std.proofs.Common.{◌∙◌, ap, sym}
use Rattle.std.specs.Prelude.{filter_map, slice_get}
use Rattle.std.proofs.lemmas.Result.{err_from_is_err_and}
use Rattle.resource_manager.specs.Courses.{course_in}
use Rattle.resource_manager.proofs.Floors.{all_taken, kept, passed, there}
use Rattle.resource_manager.proofs.forgetting.left_of.Goals as goal

pub unreachable-requires : goal.unreachable-requires
unreachable-requires c =
    there c.args.floor.now c.args.manager.now _ c.manager.view_is c.begun-number-items.result.now c.loop-number.number-index 0
    c.loop-number-test.true c.begun-number-items.ensures.below (sym c.in_default.is ∙ c.view.ensures)

pub loop-number-preserved-then-is_below : goal.loop-number-preserved-then-is_below
loop-number-preserved-then-is_below c =
    passed c.args.floor.now c.args.manager.now _ c.manager.view_is c.begun-number-items.result.now
    c.loop-number.number-index 0 c.loop-number-test.true c.in-Some.tx c.in-Some.ensures c.loop-number.courses c.loop-number.spent
    (sym c.is_below.ensures ∙ c.if-is_below.true) c.loop-number.invariant

pub returns-in_err-keep-clause-err : goal.returns-in_err-keep-clause-err
returns-in_err-keep-clause-err c =
    let p = err_from_is_err_and c.from_residual.result c.from_residual.ensures.1 in
    rw (p.1, p.2) c.in_err-keep.ensures.err

pub loop-number-preserved : goal.loop-number-preserved
loop-number-preserved c =
    kept c.args.floor.now c.args.manager.now _ c.manager.view_is c.begun-number-items.result.now
    c.loop-number.number-index 0 c.loop-number-test.true c.in-Some.tx c.in-Some.ensures c.number.result c.of_likely-course.result
    c.loop-number.courses c.keep.new.courses c.loop-number.spent c.keep.new.spent (sym c.is_below.ensures ∙ c.if-is_below.false)
    (ap (λ m. filter_map (slice_get m.courses.transactions) c.begun-number-items.result.now) (sym c.manager.view_is)
    ∙ c.begun-number-items.ensures.found ∙ ap (λ m. m.courses.begun) c.manager.view_is)
    c.number.ensures
    (c.of_likely-course.ensures ∙ ap (λ m. course_in m.courses c.in-Some.tx) c.manager.view_is)
    c.loop-number.invariant c.in_ok-keep.ensures.ok

pub returns-clause-ok : goal.returns-clause-ok
returns-clause-ok c =
    all_taken c.args.floor.now c.args.manager.now _ c.manager.view_is c.begun-number-items.result.now
    c.loop-number.number-index c.loop-number-test.false c.begun-number-items.ensures.found c.loop-number.courses c.loop-number.spent
    c.loop-number.invariant
