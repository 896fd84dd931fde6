use Rattle.std.proofs.Common.{ap}
use Rattle.protocol.specs.declared.nodes.NodeId.TheVariants.{A, L}
use Rattle.node_core.specs.Receivers.{receivers_in}
use Rattle.node_core.proofs.Addressed.{named_count}
use Rattle.node_core.proofs.receivers.Receivers.count.Goals as goal

pub returns-in-Acceptors : goal.returns-in-Acceptors
returns-in-Acceptors c =
    named_count A c.args.self.now c.in-Acceptors.count (ap receivers_in c.in-Acceptors.is) c.from.result c.from.ensures

pub returns-in-Leaders : goal.returns-in-Leaders
returns-in-Leaders c =
    named_count L c.args.self.now c.in-Leaders.count (ap receivers_in c.in-Leaders.is) c.from-in-Leaders.result c.from-in-Leaders.ensures
