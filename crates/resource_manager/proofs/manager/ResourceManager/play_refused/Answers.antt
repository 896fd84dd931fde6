use Rattle.std.proofs.Common.{◌∙◌, sym, ap}
use Rattle.resource_manager.specs.SpentNames.{is_spent_in}
use Rattle.resource_manager.proofs.Deciding.{course_of}
use Rattle.resource_manager.proofs.Played.{unnamed_refusal, late_refusal, plays_refusal, working_course}
use Rattle.resource_manager.proofs.manager.ResourceManager.play_refused.Goals as goal

pub returns-in_default : goal.returns-in_default
returns-in_default c = unnamed_refusal c.args.self.now c.args.tx.now (sym c.in_default.ensures.value)

pub returns-then-not-is_working : goal.returns-then-not-is_working
returns-then-not-is_working c =
    late_refusal c.args.self.now c.args.tx.now c.of.result
    (course_of _ c.args.self.now c.args.tx.now c.of.result c.self.view_is c.of.ensures) (sym c.if-not-is_working.ensures)

pub returns : goal.returns
returns c =
    plays_refusal c.args.self.now c.end_branch.new.self c.args.tx.now c.in-Some.xid (sym c.in-Some.ensures.value) c.contains-is_spent.result
    (course_of _ c.args.self.now c.args.tx.now c.of.result c.self.view_is c.of.ensures
    ∙ working_course c.of.result (sym c.if-not-is_working.ensures))
    (sym (c.contains-is_spent.ensures ∙ ap
    (λ m. is_spent_in m.spent c.in-Some.xid) c.self.view_is)) c.end_branch.result c.end_branch.ensures
