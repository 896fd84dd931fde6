use Rattle.cluster.proofs.Handed.{torn_nowhere}
use Rattle.cluster.proofs.Renewed.{torn_made}
use Rattle.cluster.proofs.handing.tear.Goals as goal

pub returns-in_default : goal.returns-in_default
returns-in_default g c = λ network notices config world s.
    torn_nowhere config world c.args.sizes c.args.nodes.now.items network notices s c.args.who c.in_default.ensures c.answers.new.self
    c.answers.ensures.answer c.answers.ensures.now c.args.bytes

pub returns : goal.returns
returns g c = λ network notices config world s.
    torn_made config world c.args.sizes c.args.nodes.now.items network notices s c.args.who c.in-Some.at c.in-Some.ensures
    c.index_mut-node.result.now c.arm.new.self c.index_mut-node.ensures.value c.args.bytes c.arm.ensures.held
    c.arm.ensures.floor c.arm.ensures.armed c.answers-2.new.self c.answers-2.ensures.answer c.answers-2.ensures.now
