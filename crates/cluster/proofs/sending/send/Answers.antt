use Rattle.std.proofs.Common.{◌∙◌, ◌<◌, List, length, map, sym, subst, arith}
use Rattle.std.proofs.lemmas.List.{take_all}
use Rattle.protocol.specs.declared.nodes.NodeId.{NodeId}
use Rattle.protocol.specs.Worlds.{datagram_to}
use Rattle.node_core.specs.Receivers.{receivers_in}
use Rattle.cluster.specs.Sending.{HasRoom, HaveSent, KeepsRoom}
use Rattle.cluster.proofs.Sent.{room_there, room_next, room_after, next_put, count_sent}
use Rattle.cluster.proofs.sending.send.Goals as goal

pub put-requires-clause-room : goal.put-requires-clause-room
put-requires-clause-room c =
    let (message, spells) = c.requires.spelled in
    room_there c.args.network.now c.loop-i.network (length (receivers_in c.of-receivers.result)) c.loop-i.i c.loop-i.invariant.room
    (subst (λ n. HasRoom n c.args.network.now)
    (count_sent (datagram_to c.args.sender message) (c.of-receivers.ensures message spells)) (c.requires.room message spells))
    (omega (arith, c.loop-i-test.true, c.count-i-end.ensures))

pub loop-i-preserved : goal.loop-i-preserved
loop-i-preserved c =
    let receivers : List NodeId = receivers_in c.of-receivers.result in
    let lt : c.loop-i.i < length receivers = omega (arith, c.loop-i-test.true, c.count-i-end.ensures) in
    record {
      sent = λ message spells.
          next_put c.args.network.now c.loop-i.network c.put.new.network c.args.sender message receivers c.loop-i.i c.at.result lt
          c.at.ensures (c.put.ensures.stands message spells) (c.loop-i.invariant.sent message spells);
      some = λ more. c.put.ensures.some;
      room =
          room_next c.args.network.now c.loop-i.network (length receivers) c.loop-i.i c.loop-i.invariant.room c.put.new.network lt
          c.put.ensures.room;
    }

pub returns-clause-sent : goal.returns-clause-sent
returns-clause-sent c = λ message spells.
    let all = take_all c.loop-i.i (receivers_in c.of-receivers.result) (omega (arith, c.loop-i-test.false, c.count-i-end.ensures)) in
    subst (λ (rs : List NodeId). HaveSent c.args.network.now c.loop-i.network (map (datagram_to c.args.sender message) rs))
    (all ∙ c.of-receivers.ensures message spells) (c.loop-i.invariant.sent message spells)

pub returns-clause-room : goal.returns-clause-room
returns-clause-room c = λ message spells.
    subst (λ n. KeepsRoom n c.args.network.now c.loop-i.network)
    (sym (count_sent (datagram_to c.args.sender message) (c.of-receivers.ensures message spells)))
    (room_after c.args.network.now c.loop-i.network (length (receivers_in c.of-receivers.result)) c.loop-i.i c.loop-i.invariant.room
    (omega (arith, c.loop-i-test.false, c.count-i-end.ensures)))
