use Rattle.std.proofs.Common.{◌∙◌, sym, ap}
use Rattle.resource_manager.specs.SpentNames.{is_spent_in}
use Rattle.resource_manager.proofs.Deciding.{course_of}
use Rattle.resource_manager.proofs.Played.{unnamed_vote, late_vote, spent_vote, plays_vote, working_course}
use Rattle.resource_manager.proofs.manager.ResourceManager.play_prepared.Goals as goal

pub returns-in_default : goal.returns-in_default
returns-in_default c = unnamed_vote c.args.self.now c.args.tx.now (sym c.in_default.ensures.value) c.args.keys.now

pub returns-then-not-is_working : goal.returns-then-not-is_working
returns-then-not-is_working c =
    late_vote c.args.self.now c.args.tx.now c.of.result
    (course_of _ c.args.self.now c.args.tx.now c.of.result c.self.view_is c.of.ensures) c.args.keys.now (sym c.if-not-is_working.ensures)

pub returns-then-contains : goal.returns-then-contains
returns-then-contains c =
    spent_vote c.args.self.now c.args.tx.now c.in-Some.xid c.args.keys.now (sym c.in-Some.ensures.value)
    (sym (c.if-contains.ensures ∙ ap (λ m. is_spent_in m.spent c.in-Some.xid) c.self.view_is))

pub returns-then-has_branch : goal.returns-then-has_branch
returns-then-has_branch c =
    plays_vote c.args.self.now c.play_idle.new.self c.args.tx.now c.in-Some.xid (sym c.in-Some.ensures.value) c.args.keys.now
    (course_of _ c.args.self.now c.args.tx.now c.of.result c.self.view_is c.of.ensures
    ∙ working_course c.of.result (sym c.if-not-is_working.ensures))
    (sym (c.if-contains.ensures ∙ ap (λ m. is_spent_in m.spent c.in-Some.xid) c.self.view_is)) c.play_idle.result c.play_idle.ensures

pub returns : goal.returns
returns c =
    plays_vote c.args.self.now c.play_new.new.self c.args.tx.now c.in-Some.xid (sym c.in-Some.ensures.value) c.args.keys.now
    (course_of _ c.args.self.now c.args.tx.now c.of.result c.self.view_is c.of.ensures
    ∙ working_course c.of.result (sym c.if-not-is_working.ensures))
    (sym (c.if-contains.ensures ∙ ap (λ m. is_spent_in m.spent c.in-Some.xid) c.self.view_is)) c.play_new.result c.play_new.ensures
