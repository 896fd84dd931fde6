use Rattle.std.proofs.Common.{◌∙◌, sym, ap}
use Rattle.resource_manager.specs.SpentNames.{is_spent_in}
use Rattle.resource_manager.proofs.Deciding.{course_of}
use Rattle.resource_manager.proofs.Played.{unnamed_abort, late_abort, plays_abort, plays_undoing, prepared_course, open_working}
use Rattle.resource_manager.proofs.manager.ResourceManager.play_aborted.Goals as goal

pub returns-in_default : goal.returns-in_default
returns-in_default c = unnamed_abort c.args.self.now c.args.tx.now (sym c.in_default.ensures.value)

pub returns-then-not-is_open : goal.returns-then-not-is_open
returns-then-not-is_open c =
    late_abort c.args.self.now c.args.tx.now c.of-course.result
    (course_of _ c.args.self.now c.args.tx.now c.of-course.result c.self.view_is c.of-course.ensures) (sym c.if-not-is_open.ensures)

pub returns-then-is_prepared : goal.returns-then-is_prepared
returns-then-is_prepared c =
    plays_undoing c.args.self.now c.end_branch.new.self c.args.tx.now c.in-Some.xid (sym c.in-Some.ensures.value)
    (course_of _ c.args.self.now c.args.tx.now c.of-course.result c.self.view_is c.of-course.ensures
    ∙ prepared_course c.of-course.result (sym c.if-is_prepared.ensures)) c.end_branch.result c.end_branch.ensures

pub returns : goal.returns
returns c =
    plays_abort c.args.self.now c.end_branch-2.new.self c.args.tx.now c.in-Some.xid (sym c.in-Some.ensures.value) c.contains-is_spent.result
    (course_of _ c.args.self.now c.args.tx.now c.of-course.result c.self.view_is c.of-course.ensures
    ∙ open_working c.of-course.result (sym c.if-not-is_open.ensures) (sym c.if-is_prepared.ensures))
    (sym (c.contains-is_spent.ensures ∙ ap (λ m. is_spent_in m.spent c.in-Some.xid) c.self.view_is)) c.end_branch-2.result
    c.end_branch-2.ensures
