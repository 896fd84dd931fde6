use Rattle.std.proofs.Common.{◌∙◌}
use Rattle.cluster.proofs.Handed.{restarted_nowhere}
use Rattle.cluster.proofs.Renewed.{restarted_made}
use Rattle.cluster.proofs.handing.restart.Goals as goal

pub returns-in_default : goal.returns-in_default
returns-in_default g c = λ network config world s.
    restarted_nowhere config world c.args.sizes c.args.nodes.now.items network c.args.notices.now s c.args.who c.in_default.ensures
    c.answers.new.self c.answers.ensures.answer c.answers.ensures.now

pub returns : goal.returns
returns g c = λ network config world s.
    restarted_made config world c.args.sizes c.args.nodes.now.items network c.args.notices.now s c.args.who c.in-Some.at c.in-Some.ensures
    c.index_mut-node.result.now c.restart-restarted.new.self c.index_mut-node.ensures.value c.restart-restarted.result
    c.restart-restarted.ensures.machine c.forget.new.self c.forget.ensures c.answers-2.new.self
    (c.answers-2.ensures.answer ∙ c.answer_of.ensures) c.answers-2.ensures.now
