use Rattle.udp_run.specs.Sites.{IsRestarted}
use Rattle.udp_run.proofs.Reaching.{handled}
use Rattle.udp_run.proofs.happenings.restart.Goals as goal

pub returns-clause-restarts : goal.returns-clause-restarts
returns-clause-restarts g c =
    handled IsRestarted c.args.sizes c.args.nodes.now.items c.args.who c.in-Some.at c.in-Some.ensures c.requires
    c.index_mut-node.result.now c.restart.new.self c.restart.result c.answered.result c.index_mut-node.ensures.value c.restart.ensures
    c.answered.ensures
