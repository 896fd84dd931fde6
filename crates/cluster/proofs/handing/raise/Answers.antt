use Rattle.std.proofs.Common.{◌∙◌}
use Rattle.cluster.proofs.Raised.{no_notices, raised_made, raised_nowhere}
use Rattle.cluster.proofs.handing.raise.Goals as goal

pub returns-in_default : goal.returns-in_default
returns-in_default g c = λ network config world s.
    raised_nowhere config world c.args.sizes c.args.nodes.now.items network c.args.notices.now s c.answers.new.self c.answers.ensures.now
    c.args.rm c.args.floor.now c.in_default.ensures c.answers.ensures.answer

pub returns-in-Err : goal.returns-in-Err
returns-in-Err g c = λ network config world s.
    no_notices c.args.sizes c.args.nodes.now.items network c.args.notices.now c.reserve.new.self c.reserve.ensures.told
    c.reserve.ensures.all c.args.rm c.args.floor.now c.answers-in-Err.new.self c.answers-in-Err.ensures.answer
    c.answers-in-Err.ensures.now config world s

pub returns : goal.returns
returns g c = λ network config world s.
    raised_made config world c.args.sizes c.args.nodes.now.items network c.args.notices.now s c.args.rm c.in-Some.at c.in-Some.ensures
    c.index_mut-node.result.now c.raise_told-raised.new.node c.index_mut-node.ensures.value c.args.floor.now c.raise_told-raised.result
    c.raise_told-raised.ensures.raises c.reserve.new.self c.raise_told-raised.new.notices c.reserve.ensures.told c.reserve.ensures.all
    c.raise_told-raised.ensures.told c.raise_told-raised.ensures.err c.answers-2.new.self
    (c.answers-2.ensures.answer ∙ c.answer_of.ensures) c.answers-2.ensures.now
