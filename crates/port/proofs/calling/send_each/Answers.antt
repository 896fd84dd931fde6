use Rattle.std.proofs.Common.{[]}
use Rattle.node_core.specs.Configs.{config_by}
use Rattle.port.specs.Calls.{datagrams_from}
use Rattle.port.proofs.Sending.{sends_more}
use Rattle.port.proofs.calling.send_each.Goals as goal

pub loop-out-preserved : goal.loop-out-preserved
loop-out-preserved g c =
    λ sender.
    sends_more g.P.Port.sent (datagrams_from (config_by c.args.sizes []) sender) c.args.outs.now c.loop-out.out-index c.args.port.now
    c.loop-out.port c.send_all.new.port c.out-item.result c.loop-out-test.true c.out-item.is (c.loop-out.invariant sender)
    (c.send_all.ensures sender)
