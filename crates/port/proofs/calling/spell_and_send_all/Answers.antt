use Rattle.std.proofs.Common.{[], ◌<◌, length, arith}
use Rattle.protocol.specs.declared.decisions.Outgoing.{Outgoing}
use Rattle.protocol.specs.Worlds.{datagrams_of}
use Rattle.node_core.specs.Configs.{config_by}
use Rattle.port.proofs.Sending.{sends_more}
use Rattle.port.proofs.calling.spell_and_send_all.Goals as goal

pub send-requires : goal.send-requires
send-requires g c = (c.spell-to.ensures.spells.message, c.spell-to.ensures.spells.spells)

pub loop-k-preserved : goal.loop-k-preserved
loop-k-preserved g c =
    λ sender.
    let lt : c.loop-k.k < length c.args.sends.now = omega (arith, c.loop-k-test.true, c.count-k-end.ensures) in
    let sent : Outgoing = record { to = c.spell-to.result.0; message = c.spell-to.ensures.spells.message } in
    sends_more g.P.Port.sent (datagrams_of (config_by c.args.sizes []) sender) c.args.sends.now c.loop-k.k c.args.port.now
    c.loop-k.port c.send.new.port sent lt c.spell-to.ensures.spells.there (c.loop-k.invariant sender)
    (c.send.ensures sender c.spell-to.ensures.spells.message c.spell-to.ensures.spells.spells)
