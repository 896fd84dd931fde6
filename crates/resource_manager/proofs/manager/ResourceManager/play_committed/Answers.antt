use Rattle.std.proofs.Common.{◌∙◌, refl, sym, ap}
use Rattle.std.specs.List.{slice_index_or}
use Rattle.resource_manager.specs.declared.course.Course.{Course}
use Rattle.resource_manager.proofs.Deciding.{course_of}
use Rattle.resource_manager.proofs.Played.{unnamed_commit, early_commit, commits_by, prepared_course}
use Rattle.resource_manager.proofs.manager.ResourceManager.play_committed.Goals as goal

pub returns-in_default : goal.returns-in_default
returns-in_default c = unnamed_commit c.args.self.now c.args.tx.now (sym c.in_default.ensures.value)

pub returns-in_default-number_of : goal.returns-in_default-number_of
returns-in_default-number_of c =
    early_commit c.args.self.now c.args.tx.now Course.Working
    (course_of _ c.args.self.now c.args.tx.now Course.Working c.self.view_is (sym c.in_default-number_of.ensures)) refl

pub returns-then-not-is_prepared : goal.returns-then-not-is_prepared
returns-then-not-is_prepared c =
    early_commit c.args.self.now c.args.tx.now c.at.result
    (course_of _ c.args.self.now c.args.tx.now c.at.result c.self.view_is
    (c.at.ensures ∙ ap (λ n. slice_index_or c.self.inside.courses.courses n Course.Working) c.in-Some-number_of.ensures.0))
    (sym c.if-not-is_prepared.ensures)

pub returns : goal.returns
returns c =
    commits_by _ c.args.self.now c.args.tx.now c.in-Some.xid c.self.view_is (sym c.in-Some.ensures.value)
    (course_of _ c.args.self.now c.args.tx.now c.at.result c.self.view_is
    (c.at.ensures ∙ ap (λ n. slice_index_or c.self.inside.courses.courses n Course.Working) c.in-Some-number_of.ensures.0)
    ∙ prepared_course c.at.result (sym c.if-not-is_prepared.ensures))
    c.commit.new.self c.set.new.self c.commit.ensures c.set.ensures.courses c.set.ensures.begun
