use Rattle.std.proofs.Common.{subst, sym}
use Rattle.node_core.specs.Nodes.{NodeParts, NodeStands}
use Rattle.node_core.proofs.Looking.{armed_stands, sound_armed}
use Rattle.node_core.proofs.node.Node.arm.Goals as goal

pub invariant_of-self : goal.invariant_of-self
invariant_of-self g c = sound_armed _ _ c.args.n c.arm.ensures c.self.invariant

pub returns-clause-armed : goal.returns-clause-armed
returns-clause-armed g c = λ config m s.
    let inside : NodeStands config _ m = subst (λ (n : NodeParts). NodeStands config n m) (sym c.self.view_is) s in
    record {
      sizes_are = inside.sizes_are;
      stands = armed_stands config _ _ m _ _ _ c.args.n c.arm.ensures inside.stands;
    }
