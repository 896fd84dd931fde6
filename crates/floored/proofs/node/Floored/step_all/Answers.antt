use Rattle.std.proofs.Common.{subst, map}
use Rattle.protocol.specs.Effects.{Config}
use Rattle.protocol.specs.Nodes.{NodeState}
use Rattle.floored.specs.Nodes.{FlooredParts}
use Rattle.node_core.specs.Groups.{GroupsAs}
use Rattle.node_core.specs.Nodes.{NodeStands, input_of}
use Rattle.floored.proofs.Grouping.{sound_group}
use Rattle.floored.proofs.Seen.{above_inside, groups_seen}
use Rattle.floored.proofs.node.Floored.step_all.Goals as goal

pub invariant_of-self : goal.invariant_of-self
invariant_of-self g c =
    let inputs = map input_of c.args.inputs.now in
    sound_group c.self.inside.floor c.self.inside.node c.step_all.new.self inputs c.step_all.new.outs c.self.invariant
    (above_inside c.self.inside.node c.args.self.now c.self.view_is inputs c.requires.above) c.step_all.result c.step_all.ensures

pub returns-clause-machine : goal.returns-clause-machine
returns-clause-machine g c =
    groups_seen c.self.inside.node c.args.self.now c.self.view_is c.step_all.new.self (map input_of c.args.inputs.now)
    c.step_all.new.outs c.step_all.result c.requires.above c.step_all.ensures

pub returns-clause-node : goal.returns-clause-node
returns-clause-node g c =
    subst (λ (f : FlooredParts). (config : Config) (m : NodeState) → NodeStands config f.node m
    → GroupsAs config m (map input_of c.args.inputs.now) f.node c.step_all.new.self c.step_all.new.outs c.step_all.result) c.self.view_is
    c.step_all.ensures
