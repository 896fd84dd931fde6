use Rattle.std.proofs.Common.{◌∙◌, true, refl, sym, ap}
use Rattle.xid.specs.Transactions.{is_participant, participants}
use Rattle.protocol.specs.declared.answers.Answer.TheVariants.{Stands}
use Rattle.protocol.specs.Effects.{view_standing}
use Rattle.resource_manager.specs.Courses.{view_of}
use Rattle.resource_manager.specs.Messages.{are_below}
use Rattle.resource_manager.proofs.Deciding.{view_named_here, course_of}
use Rattle.resource_manager.proofs.manager.ResourceManager.view.Goals as goal

pub returns : goal.returns
returns c config number facts branches stands =
    ap (λ v. Stands (view_standing v))
    (c.view.ensures ∙ ap view_of (sym (course_of _ c.args.self.now c.args.tx.now c.of.result c.self.view_is c.of.ensures)))
    ∙ view_named_here c.args.self.now c.args.tx.now config number facts branches stands true
    (c.if-not-is_inside.ensures ∙ ap (λ m. are_below m.managers (participants c.args.tx.now)) c.self.view_is) refl
    (sym (c.if-not-is_participant.ensures.value ∙ ap (is_participant c.args.tx.now) c.number.ensures))
