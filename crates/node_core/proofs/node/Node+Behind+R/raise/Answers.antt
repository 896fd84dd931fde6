use Rattle.std.proofs.Common.{refl}
use Rattle.node_core.proofs.Risen.{raised_sound}
use Rattle.node_core.proofs.node.Node+Behind+R.raise.Goals as goal

pub invariant_of-self : goal.invariant_of-self
invariant_of-self g c =
    let sound = c.self.invariant in
    let inside = c.self.inside in
    raised_sound _ sound c.args.floor.now inside.device c.raise.new.device refl c.raise.new.role c.raise.result
    (c.raise.ensures.machine sound.config inside.who inside.rows.items sound.state sound.is.stands)
