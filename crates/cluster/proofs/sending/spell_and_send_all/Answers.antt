use Rattle.std.proofs.Common.{◌<◌, length, subst, arith, []}
use Rattle.wire.specs.declared.message.Kind.{Kind}
use Rattle.wire.proofs.OneSpelling.{means_one}
use Rattle.protocol.specs.declared.decisions.Outgoing.{Outgoing}
use Rattle.protocol.specs.Worlds.{datagrams_of}
use Rattle.node_core.specs.Configs.{config_by}
use Rattle.cluster.specs.Sending.{HasRoom}
use Rattle.cluster.proofs.Sent.{next_room, next_sent}
use Rattle.cluster.proofs.sending.spell_and_send_all.Goals as goal

pub send-requires-clause-spelled : goal.send-requires-clause-spelled
send-requires-clause-spelled c = (c.spell-to.ensures.spells.message, c.spell-to.ensures.spells.spells)

pub send-requires-clause-room : goal.send-requires-clause-room
send-requires-clause-room c = λ message spells.
    let lt : c.loop-k.k < length c.args.sends.now = omega (arith, c.loop-k-test.true, c.count-k-end.ensures) in
    let is = c.spell-to.ensures.spells in
    let sent : Outgoing = record { to = c.spell-to.result.0; message = is.message } in
    subst (λ (k : Kind). HasRoom (length (datagrams_of (config_by c.args.sizes []) c.args.sender
    (record { to = c.spell-to.result.0; message = k }))) c.loop-k.network)
    (means_one is.message message _ is.spells spells)
    (next_room (datagrams_of (config_by c.args.sizes []) c.args.sender) c.args.sends.now c.args.network.now c.loop-k.network c.loop-k.k
    sent lt is.there c.loop-k.invariant)

pub loop-k-preserved : goal.loop-k-preserved
loop-k-preserved c =
    let lt : c.loop-k.k < length c.args.sends.now = omega (arith, c.loop-k-test.true, c.count-k-end.ensures) in
    let is = c.spell-to.ensures.spells in
    let sent : Outgoing = record { to = c.spell-to.result.0; message = is.message } in
    next_sent (datagrams_of (config_by c.args.sizes []) c.args.sender) c.args.sends.now c.args.network.now c.loop-k.network c.loop-k.k
    sent lt is.there c.loop-k.invariant c.send.new.network (c.send.ensures.sent is.message is.spells)
    (c.send.ensures.room is.message is.spells)
