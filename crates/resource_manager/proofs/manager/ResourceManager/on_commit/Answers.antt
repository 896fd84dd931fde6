use Rattle.std.proofs.Common.{◌∙◌, Some, [], ap, sym}
use Rattle.stable_record.specs.declared.fact.FactKind.TheVariants as facts
use Rattle.protocol.specs.declared.answers.Answer.TheVariants.{Done}
use Rattle.protocol.specs.Decisions.{shown}
use Rattle.resource_manager.proofs.Deciding.{commit_unnamed, commit_ignored, commit_stored, course_of, nothing_shown}
use Rattle.resource_manager.proofs.Played.{prepared_course}
use Rattle.resource_manager.proofs.manager.ResourceManager.on_commit.Goals as goal

pub returns-in_default : goal.returns-in_default
returns-in_default c =
    commit_unnamed c.args.self.now c.args.tx.now (shown c.nothing.result) (sym c.in_default.ensures.value)
    (nothing_shown c.nothing.result c.nothing.ensures.fact c.nothing.ensures.reply)

pub returns-then-not-is_prepared : goal.returns-then-not-is_prepared
returns-then-not-is_prepared c =
    let none = c.nothing-then-not-is_prepared in
    commit_ignored c.args.self.now c.args.tx.now (shown none.result) c.of.result
    (course_of _ c.args.self.now c.args.tx.now c.of.result c.self.view_is c.of.ensures) (sym c.if-not-is_prepared.ensures)
    (nothing_shown none.result none.ensures.fact none.ensures.reply)

pub returns : goal.returns
returns c =
    commit_stored c.args.self.now c.args.tx.now (shown c.stores.result) c.in-Some._xid (sym c.in-Some.ensures.value)
    (course_of _ c.args.self.now c.args.tx.now c.of.result c.self.view_is c.of.ensures
    ∙ prepared_course c.of.result (sym c.if-not-is_prepared.ensures))
    (c.stores.ensures ∙ ap (λ f. record { answer = Done; fact = Some f; sends = [] }) (c.new.ensures ∙ ap facts.Committed c.again.ensures))
