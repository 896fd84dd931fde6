use Rattle.udp_run.specs.Sites.{IsShortened}
use Rattle.udp_run.proofs.Reaching.{handled}
use Rattle.udp_run.proofs.happenings.compact.Goals as goal

pub returns-clause-compacts : goal.returns-clause-compacts
returns-clause-compacts g c =
    handled IsShortened c.args.sizes c.args.nodes.now.items c.args.who c.in-Some.at c.in-Some.ensures c.requires
    c.index_mut-node.result.now c.compact.new.self c.compact.result c.answered.result c.index_mut-node.ensures.value c.compact.ensures
    c.answered.ensures
