use Rattle.std.proofs.Common.{◌∙◌, sym, ap}
use Rattle.xid.specs.Transactions.{is_participant}
use Rattle.protocol.proofs.Manager.Effects.{name_names}
use Rattle.protocol.specs.Decisions.{shown}
use Rattle.resource_manager.proofs.Deciding.{prepare_unnamed, prepare_again, prepare_ended, first_shown, course_of, told_is, ended_by}
use Rattle.resource_manager.proofs.Deciding.{nothing_shown}
use Rattle.resource_manager.proofs.Played.{working_course}
use Rattle.resource_manager.proofs.manager.ResourceManager.on_prepare.Goals as goal

pub returns-in_default-clause-ok : goal.returns-in_default-clause-ok
returns-in_default-clause-ok c =
    prepare_unnamed c.args.self.now c.args.tx.now (shown c.nothing.result) (sym c.in_default.ensures.value)
    (nothing_shown c.nothing.result c.nothing.ensures.fact c.nothing.ensures.reply)

pub first_vote-requires : goal.first_vote-requires
first_vote-requires c = name_names c.args.tx.now c.args.self.now.number c.in-Some.xid (sym c.in-Some.ensures.value)

pub returns-then-is_working-clause-ok : goal.returns-then-is_working-clause-ok
returns-then-is_working-clause-ok c =
    first_shown c.first_vote.result c.args.self.now c.args.tx.now c.in-Some.xid (sym c.in-Some.ensures.value)
    (course_of _ c.args.self.now c.args.tx.now c.of-course.result c.self.view_is c.of-course.ensures
    ∙ working_course c.of-course.result (sym c.if-is_working.ensures)) c.first_vote.ensures.table c.first_vote.ensures.ok

pub tells-requires : goal.tells-requires
tells-requires c =
    ap (is_participant c.args.tx.now) c.number.ensures
    ∙ name_names c.args.tx.now c.args.self.now.number c.in-Some.xid (sym c.in-Some.ensures.value)

pub returns-in-Some-vote-clause-ok : goal.returns-in-Some-vote-clause-ok
returns-in-Some-vote-clause-ok c =
    prepare_again c.args.self.now c.args.tx.now c.in-Some.xid (sym c.in-Some.ensures.value) c.of-course.result
    (course_of _ c.args.self.now c.args.tx.now c.of-course.result c.self.view_is c.of-course.ensures) (shown c.tells.result)
    c.in-Some-vote.vote
    (sym c.in-Some-vote.ensures)
    (told_is (shown c.tells.result) c.number.result c.args.self.now.number c.args.tx.now c.in-Some-vote.vote c.tells.ensures
    c.number.ensures)

pub returns-in-None-clause-ok : goal.returns-in-None-clause-ok
returns-in-None-clause-ok c =
    let none = c.nothing-in-None in
    prepare_ended c.args.self.now c.args.tx.now c.in-Some.xid (sym c.in-Some.ensures.value) c.of-course.result
    (course_of _ c.args.self.now c.args.tx.now c.of-course.result c.self.view_is c.of-course.ensures) (shown none.result)
    (sym c.in-None.ensures)
    (ended_by c.of-course.result (sym c.in-None.ensures) (sym c.if-is_working.ensures))
    (nothing_shown none.result none.ensures.fact none.ensures.reply)
