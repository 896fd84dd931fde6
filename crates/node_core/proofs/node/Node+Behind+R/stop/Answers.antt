use Rattle.node_core.proofs.Risen.{stopped_sound}
use Rattle.node_core.proofs.node.Node+Behind+R.stop.Goals as goal

pub invariant_of-self : goal.invariant_of-self
invariant_of-self g c = stopped_sound _ c.self.invariant
