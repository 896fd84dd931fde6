use Rattle.std.proofs.Common.{map, take}
use Rattle.wire.specs.declared.message.Kind.{Kind}
use Rattle.wire.specs.Grammar.{Spells}
use Rattle.protocol.specs.declared.nodes.NodeId.{NodeId}
use Rattle.protocol.specs.Worlds.{datagram_to}
use Rattle.node_core.specs.Receivers.{receivers_in}
use Rattle.port.specs.Calls.{SendsAll}
use Rattle.port.proofs.calling.send.Given as goal

-- it was sent to so many of its receivers
abbrev pub invariant-loop-i : goal.invariant-loop-i
invariant-loop-i g l = (sender : NodeId) (message : Kind) → Spells message l.bytes → SendsAll g.P.Port.sent l.fn.port l.port
    (map (datagram_to sender message) (take l.i (receivers_in l.receivers)))
