use Rattle.std.proofs.Common.{◌∙◌}
use Rattle.cluster.proofs.Handed.{compacted_nowhere}
use Rattle.cluster.proofs.Renewed.{compacted_made}
use Rattle.cluster.proofs.handing.compact.Goals as goal

pub returns-in_default : goal.returns-in_default
returns-in_default g c = λ network notices config world s.
    compacted_nowhere config world c.args.sizes c.args.nodes.now.items network notices s c.args.who c.in_default.ensures c.answers.new.self
    c.answers.ensures.answer c.answers.ensures.now

pub returns : goal.returns
returns g c = λ network notices config world s.
    compacted_made config world c.args.sizes c.args.nodes.now.items network notices s c.args.who c.in-Some.at c.in-Some.ensures
    c.index_mut-node.result.now c.compact-compacted.new.self c.index_mut-node.ensures.value c.compact-compacted.result
    c.compact-compacted.ensures.machine c.compact-compacted.ensures.node c.answers-2.new.self
    (c.answers-2.ensures.answer ∙ c.answer_of.ensures) c.answers-2.ensures.now
