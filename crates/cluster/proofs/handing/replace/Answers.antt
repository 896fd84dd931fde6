use Rattle.std.proofs.Common.{◌∙◌, sym}
use Rattle.cluster.proofs.Replaced.{replaced_made, replaced_manager, replaced_nowhere}
use Rattle.cluster.proofs.handing.replace.Goals as goal

pub returns-then-is_manager : goal.returns-then-is_manager
returns-then-is_manager g c = λ network config world s.
    replaced_manager config world c.args.sizes c.args.nodes.now.items network c.args.notices.now s c.answers.new.self
    c.answers.ensures.now c.args.who c.args.floor.now c.answers.ensures.answer
    (sym c.is_manager.ensures ∙ c.if-is_manager.true)

pub returns-in_default : goal.returns-in_default
returns-in_default g c = λ network config world s.
    replaced_nowhere config world c.args.sizes c.args.nodes.now.items network c.args.notices.now s c.answers-in_default.new.self
    c.answers-in_default.ensures.now c.args.who c.args.floor.now c.answers-in_default.ensures.answer
    (sym c.is_manager.ensures ∙ c.if-is_manager.false) c.in_default.ensures

pub returns : goal.returns
returns g c = λ network config world s.
    replaced_made config world c.args.sizes c.args.nodes.now.items network c.args.notices.now s c.args.who c.in-Some.at c.in-Some.ensures
    c.index_mut-node.result.now c.stand_in-replaced.new.self c.index_mut-node.ensures.value
    (sym c.is_manager.ensures ∙ c.if-is_manager.false) c.args.floor.now c.stand_in-replaced.result c.stand_in-replaced.ensures.other
    c.forget_replaced.new.notices c.forget_replaced.ensures c.answers-2.new.self (c.answers-2.ensures.answer ∙ c.answer_of.ensures)
    c.answers-2.ensures.now
