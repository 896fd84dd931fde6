use Rattle.std.proofs.Common.{◌∙◌, ◌<◌, ℕ, List, length, map, subst, arith}
use Rattle.std.proofs.lemmas.List.{take_all}
use Rattle.protocol.specs.declared.nodes.NodeId.{NodeId}
use Rattle.protocol.specs.Worlds.{datagram_to}
use Rattle.node_core.specs.Receivers.{receivers_in}
use Rattle.port.specs.Calls.{SendsAll}
use Rattle.port.proofs.Sending.{sends_next}
use Rattle.port.proofs.calling.send.Goals as goal

pub loop-i-preserved : goal.loop-i-preserved
loop-i-preserved g c =
    λ sender message spells.
    let to : List NodeId = receivers_in c.of-receivers.result in
    let lt : c.loop-i.i < length to = omega (arith, c.loop-i-test.true, c.count-i-end.ensures) in
    sends_next g.P.Port.sent (datagram_to sender message) to c.loop-i.i c.args.port.now c.loop-i.port c.send.new.self c.at.result
    c.send.result lt c.at.ensures (c.loop-i.invariant sender message spells)
    (subst (λ (bytes : List ℕ). g.P.Port.sent c.loop-i.port c.send.new.self c.at.result bytes c.send.result) spells.spelled
    c.send.ensures.step)

pub returns : goal.returns
returns g c =
    λ sender message spells.
    let to : List NodeId = receivers_in c.of-receivers.result in
    let all = take_all c.loop-i.i to (omega (arith, c.loop-i-test.false, c.count-i-end.ensures)) in
    subst (λ (rs : List NodeId). SendsAll g.P.Port.sent c.args.port.now c.loop-i.port (map (datagram_to sender message) rs))
    (all ∙ c.of-receivers.ensures message spells) (c.loop-i.invariant sender message spells)
