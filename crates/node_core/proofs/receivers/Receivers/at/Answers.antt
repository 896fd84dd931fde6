use Rattle.std.proofs.Common.{ap}
use Rattle.protocol.specs.declared.nodes.NodeId.TheVariants.{A, L}
use Rattle.node_core.specs.Receivers.{receivers_in}
use Rattle.node_core.proofs.Addressed.{named_is, named_there}
use Rattle.node_core.proofs.receivers.Receivers.at.Goals as goal

pub number_below-requires : goal.number_below-requires
number_below-requires c =
    named_there A c.args.self.now c.in-Acceptors.count (ap receivers_in c.in-Acceptors.is) c.args.i c.requires

pub number_below-requires-in-Leaders : goal.number_below-requires-in-Leaders
number_below-requires-in-Leaders c =
    named_there L c.args.self.now c.in-Leaders.count (ap receivers_in c.in-Leaders.is) c.args.i c.requires

pub returns-in-Acceptors : goal.returns-in-Acceptors
returns-in-Acceptors c =
    named_is A c.args.self.now c.in-Acceptors.count (ap receivers_in c.in-Acceptors.is) c.args.i c.requires c.number_below.result
    c.number_below.ensures

pub returns-in-Leaders : goal.returns-in-Leaders
returns-in-Leaders c =
    named_is L c.args.self.now c.in-Leaders.count (ap receivers_in c.in-Leaders.is) c.args.i c.requires c.number_below-in-Leaders.result
    c.number_below-in-Leaders.ensures
