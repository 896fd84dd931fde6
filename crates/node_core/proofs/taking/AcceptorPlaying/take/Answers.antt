use Rattle.node_core.proofs.Playing.{acceptor_takes}
use Rattle.node_core.proofs.taking.AcceptorPlaying.take.Goals as goal

pub returns : goal.returns
returns c = acceptor_takes c.args.self.now c.play.new.self c.args.fact.now c.play.result c.play.ensures
