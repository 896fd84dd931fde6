use Rattle.std.proofs.Common.{[], take}
use Rattle.std.specs.List.{flat_map}
use Rattle.protocol.specs.declared.nodes.NodeId.{NodeId}
use Rattle.node_core.specs.Configs.{config_by}
use Rattle.port.specs.Calls.{SendsAll, datagrams_from}
use Rattle.port.proofs.calling.send_each.Given as goal

-- what came of so many inputs was sent
abbrev pub invariant-loop-out : goal.invariant-loop-out
invariant-loop-out g l = (sender : NodeId) → SendsAll g.P.Port.sent l.fn.port l.port
    (flat_map (datagrams_from (config_by l.fn.sizes []) sender) (take l.out-index l.outs))
