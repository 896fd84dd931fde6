use Rattle.std.proofs.Common.{ap}
use Rattle.node_core.specs.Nodes.{NodeParts}
use Rattle.floored.proofs.Taking.{armed_seen, sound_armed}
use Rattle.floored.proofs.node.Floored.arm.Goals as goal

pub invariant_of-self : goal.invariant_of-self
invariant_of-self g c =
    sound_armed c.self.inside.node c.arm.new.self c.args.n c.arm.ensures.same c.arm.ensures.armed c.self.inside.floor
    (ap (λ (n : NodeParts). n.role) c.arm.ensures.held) c.self.invariant

pub returns-clause-armed : goal.returns-clause-armed
returns-clause-armed g c =
    armed_seen c.self.inside.node c.arm.new.self c.args.self.now c.args.n c.self.view_is c.arm.ensures.same c.arm.ensures.armed
