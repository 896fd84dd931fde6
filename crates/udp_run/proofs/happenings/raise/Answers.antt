use Rattle.protocol.specs.declared.nodes.NodeId.TheVariants.{R}
use Rattle.udp_run.specs.Sites.{RaisesAt}
use Rattle.udp_run.proofs.Reaching.{reaches}
use Rattle.udp_run.proofs.happenings.raise.Goals as goal

pub returns-clause-raises : goal.returns-clause-raises
returns-clause-raises g c =
    λ noise.
    reaches (RaisesAt g.P.Port.sent c.args.floor.now) c.args.sizes c.args.nodes.now.items c.args.ports.now.items noise (R c.args.rm)
    c.in-Some.at c.in-Some.ensures c.requires.nodes_are c.index_mut-node.result.now c.raise.new.member c.index_mut-port.result.now
    c.raise.new.port c.answered.result c.index_mut-node.ensures.value c.index_mut-port.ensures.value
    (c.raise.result, c.raise.ensures, c.answered.ensures)
