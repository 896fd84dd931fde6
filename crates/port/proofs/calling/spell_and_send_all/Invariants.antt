use Rattle.std.proofs.Common.{[], take}
use Rattle.std.specs.List.{flat_map}
use Rattle.protocol.specs.declared.nodes.NodeId.{NodeId}
use Rattle.protocol.specs.Worlds.{datagrams_of}
use Rattle.node_core.specs.Configs.{config_by}
use Rattle.port.specs.Calls.{SendsAll}
use Rattle.port.proofs.calling.spell_and_send_all.Given as goal

-- so many messages were sent
abbrev pub invariant-loop-k : goal.invariant-loop-k
invariant-loop-k g l = (sender : NodeId) → SendsAll g.P.Port.sent l.fn.port l.port
    (flat_map (datagrams_of (config_by l.fn.sizes []) sender) (take l.k l.fn.sends))
