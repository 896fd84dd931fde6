use Rattle.protocol.specs.Nodes.{ReceivedNoise}
use Rattle.cluster.proofs.Handed.{noise_handed, nowhere}
use Rattle.cluster.proofs.handing.hand_noise.Goals as goal

pub returns : goal.returns
returns g c = λ network notices config world s.
    noise_handed config world c.args.sizes c.args.nodes.now.items network notices s c.args.who c.in-Some.at c.in-Some.ensures
    c.args.bytes.now c.requires.noise c.index_mut-node.result.now c.step_into.new.self c.step_into.new.out c.index_mut-node.ensures.value
    c.step_into.ensures c.take.new.self c.take.ensures.answer c.take.ensures.now

pub returns-in_default : goal.returns-in_default
returns-in_default g c = λ network notices config world s.
    nowhere config world c.args.sizes c.args.nodes.now.items network notices s c.args.who c.in_default.ensures c.answers.new.self
    c.answers.ensures.answer c.answers.ensures.now ReceivedNoise
