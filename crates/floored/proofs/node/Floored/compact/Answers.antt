use Rattle.std.proofs.Common.{subst}
use Rattle.protocol.specs.Effects.{Config}
use Rattle.protocol.specs.Nodes.{NodeState}
use Rattle.node_core.specs.Nodes.{NodeStands}
use Rattle.floored.specs.Nodes.{FlooredParts}
use Rattle.node_core.specs.Compacting.{CompactsAs}
use Rattle.floored.proofs.Restarting.{sound_compact}
use Rattle.floored.proofs.Seen.{compacts_seen}
use Rattle.floored.proofs.node.Floored.compact.Goals as goal

pub invariant_of-self : goal.invariant_of-self
invariant_of-self g c =
    sound_compact c.self.inside.floor c.self.inside.node c.compact.new.self c.compact.result c.self.invariant c.compact.ensures

pub returns-clause-machine : goal.returns-clause-machine
returns-clause-machine g c =
    compacts_seen c.self.inside.node c.args.self.now c.self.view_is c.compact.new.self c.compact.result c.compact.ensures

pub returns-clause-node : goal.returns-clause-node
returns-clause-node g c =
    subst (λ (f : FlooredParts). (config : Config) (m : NodeState) → NodeStands config f.node m
    → CompactsAs config m f.node c.compact.new.self c.compact.result) c.self.view_is c.compact.ensures
