use Rattle.node_core.proofs.Playing.{manager_takes}
use Rattle.node_core.proofs.taking.ResourceManagerPlaying.take.Goals as goal

pub returns : goal.returns
returns c = manager_takes c.args.self.now c.play.new.self c.args.fact.now c.play.result c.play.ensures.plays
