use Rattle.cluster.specs.Clusters.{cluster_of}
use Rattle.cluster.proofs.Occurring.{occurs_noise}
use Rattle.cluster.proofs.Sent.{no_message}
use Rattle.cluster.proofs.Handed.{forged_there, forged_nowhere}
use Rattle.cluster.proofs.handing.noise.Goals as goal

pub hand_noise-requires-clause-noise : goal.hand_noise-requires-clause-noise
hand_noise-requires-clause-noise g c = no_message c.args.bytes.now c.in-Err.ensures.err.1

pub returns-in-Err : goal.returns-in-Err
returns-in-Err g c = λ network notices config world s.
    occurs_noise config world (cluster_of c.args.sizes c.args.nodes.now.items network notices)
    (cluster_of c.args.sizes c.hand_noise.new.nodes.items network notices) c.hand_noise.new.answered s c.args.who c.args.bytes.now
    (no_message c.args.bytes.now c.in-Err.ensures.err.1) (c.hand_noise.ensures network notices config world s)

pub returns-in-Some : goal.returns-in-Some
returns-in-Some g c = λ network notices config world s.
    forged_there config world c.args.sizes c.args.nodes.now.items network notices s c.args.who c.in-Some.field-0 c.in-Some.ensures
    c.args.bytes.now c.in-Ok.field-0 c.in-Ok.ensures.ok c.answers.new.self c.answers.ensures.answer c.answers.ensures.now

pub returns-in-None : goal.returns-in-None
returns-in-None g c = λ network notices config world s.
    forged_nowhere config world c.args.sizes c.args.nodes.now.items network notices s c.args.who c.in-None.ensures
    c.answers-in-None.new.self c.answers-in-None.ensures.answer c.answers-in-None.ensures.now c.args.bytes.now c.in-Ok.field-0
    c.in-Ok.ensures.ok
