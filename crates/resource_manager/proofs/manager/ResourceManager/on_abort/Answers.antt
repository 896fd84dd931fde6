use Rattle.std.proofs.Common.{◌∙◌, Some, [], ap, sym}
use Rattle.stable_record.specs.declared.fact.FactKind.TheVariants as facts
use Rattle.protocol.specs.declared.answers.Answer.TheVariants.{Done}
use Rattle.protocol.specs.Decisions.{shown}
use Rattle.resource_manager.proofs.Deciding.{abort_unnamed, abort_ignored, abort_stored, course_of, nothing_shown}
use Rattle.resource_manager.proofs.manager.ResourceManager.on_abort.Goals as goal

pub returns-in_default : goal.returns-in_default
returns-in_default c =
    abort_unnamed c.args.self.now c.args.tx.now (shown c.nothing.result) (sym c.in_default.ensures.value)
    (nothing_shown c.nothing.result c.nothing.ensures.fact c.nothing.ensures.reply)

pub returns-then-not-is_open : goal.returns-then-not-is_open
returns-then-not-is_open c =
    let none = c.nothing-then-not-is_open in
    abort_ignored c.args.self.now c.args.tx.now (shown none.result) c.of.result
    (course_of _ c.args.self.now c.args.tx.now c.of.result c.self.view_is c.of.ensures) (sym c.if-not-is_open.ensures)
    (nothing_shown none.result none.ensures.fact none.ensures.reply)

pub returns : goal.returns
returns c =
    abort_stored c.args.self.now c.args.tx.now (shown c.stores.result) c.in-Some._xid c.of.result (sym c.in-Some.ensures.value)
    (course_of _ c.args.self.now c.args.tx.now c.of.result c.self.view_is c.of.ensures) (sym c.if-not-is_open.ensures)
    (c.stores.ensures ∙ ap (λ f. record { answer = Done; fact = Some f; sends = [] }) (c.new.ensures ∙ ap facts.Aborted c.again.ensures))
