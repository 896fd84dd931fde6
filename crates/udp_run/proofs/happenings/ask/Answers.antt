use Rattle.udp_run.specs.Sites.{AsksAt}
use Rattle.udp_run.proofs.Reaching.{reaches}
use Rattle.udp_run.proofs.happenings.ask.Goals as goal

pub returns-clause-asks : goal.returns-clause-asks
returns-clause-asks g c =
    λ noise.
    reaches (AsksAt g.P.Port.sent c.args.request.now) c.args.sizes c.args.nodes.now.items c.args.ports.now.items noise c.args.who
    c.in-Some.at c.in-Some.ensures c.requires.nodes_are c.index_mut-node.result.now c.call.new.member c.index_mut-port.result.now
    c.call.new.port c.call.result c.index_mut-node.ensures.value c.index_mut-port.ensures.value c.call.ensures
