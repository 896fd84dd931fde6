-- The nodes to which a message goes.
use Rattle.std.specs.Prelude.{List, [], ◌∷◌, map}
use Rattle.std.specs.List.{range_with_len}
use Rattle.xid.specs.Transactions.{participants}
use Rattle.wire.specs.Messages.{message_tx}
use Rattle.protocol.specs.declared.nodes.NodeId.{NodeId}
use Rattle.protocol.specs.declared.nodes.NodeId.TheVariants.{A, L, R}
use Rattle.node_core.specs.declared.receivers.Receivers.{Receivers}
use Rattle.node_core.specs.declared.receivers.Receivers.TheVariants as kinds

-- the nodes to which a message goes
abbrev pub receivers_in : Receivers → List NodeId
receivers_in (kinds.Node node) = node ∷ []
receivers_in (kinds.Acceptors count) = map A (range_with_len 0 count)
receivers_in (kinds.Leaders count) = map L (range_with_len 0 count)
receivers_in (kinds.Managers message) = map R (participants (message_tx message))
