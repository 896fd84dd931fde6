use Rattle.std.proofs.Common.{arith}
use Rattle.network.specs.Networks.{shown}
use Rattle.cluster.proofs.Handed.{cut_none, cut_made, cut_absent, cut_nothing}
use Rattle.cluster.proofs.handing.cut.Goals as goal

pub hand_noise-requires-clause-noise : goal.hand_noise-requires-clause-noise
hand_noise-requires-clause-noise g c =
    cut_none c.args.network.now c.args.number c.args.bytes (shown c.in-Some.kept) c.in-Some.ensures (omega (arith, c.if-len-kept.false))
    c.requires.sound.1.world.machine.net c.requires.sound.1.is.net_is

pub returns : goal.returns
returns g c =
    cut_made c.args.network.now c.args.number c.args.bytes (shown c.in-Some.kept) c.in-Some.ensures (omega (arith, c.if-len-kept.false))
    c.args.sizes c.args.nodes.now.items c.hand_noise.new.nodes.items c.hand_noise.new.answered c.hand_noise.ensures

pub returns-in_default : goal.returns-in_default
returns-in_default g c = λ notices config world s.
    cut_absent c.args.sizes c.args.nodes.now.items c.args.network.now c.args.number c.in_default.ensures c.answers.new.self
    c.answers.ensures.answer c.answers.ensures.now notices config world s c.args.bytes

pub returns-then-len-kept : goal.returns-then-len-kept
returns-then-len-kept g c =
    cut_nothing c.args.sizes c.args.nodes.now.items c.args.network.now c.args.number c.args.bytes (shown c.in-Some.kept)
    c.in-Some.ensures (omega (arith, c.if-len-kept.true)) c.answers-then-len-kept.new.self c.answers-then-len-kept.ensures.answer
    c.answers-then-len-kept.ensures.now
