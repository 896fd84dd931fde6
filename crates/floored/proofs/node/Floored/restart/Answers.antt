use Rattle.std.proofs.Common.{◌≡◌, ◌∙◌, None, sym, ap, subst}
use Rattle.std.specs.Prelude.{Err}
use Rattle.protocol.specs.Effects.{Config}
use Rattle.protocol.specs.Nodes.{NodeState}
use Rattle.node_core.specs.Nodes.{NodeParts, NodeStands}
use Rattle.node_core.specs.Opening.{RestartsAs}
use Rattle.floored.specs.Nodes.{FlooredParts, FlooredRestarts, FlooredStands, IsFlooredSound, with_floor}
use Rattle.floored.proofs.Restarting.{sound_restart, stopped_node, unread_node, unread_sound}
use Rattle.floored.proofs.Seen.{restarts_seen, unread_seen}
use Rattle.floored.proofs.node.Floored.restart.Goals as goal

pub invariant_of-self : goal.invariant_of-self
invariant_of-self g c =
    let inside = c.self.inside in
    let read = c.in-Err.ensures in
    let held = c.learn_floor.new.self.held in
    let same : c.stop.new.self ≡ stopped_node inside.node held =
    c.stop.ensures.parts ∙ ap (λ (n : NodeParts). record n { role = None }) read.3 in
    subst (IsFlooredSound inside.floor) (sym same)
    (unread_sound inside.floor inside.node held read.0 c.in-Err.refusal read.1 read.2 c.self.invariant)

pub returns-in-Err-clause-machine : goal.returns-in-Err-clause-machine
returns-in-Err-clause-machine g c =
    let inside = c.self.inside in
    let now = c.args.self.now in
    let read = c.in-Err.ensures in
    let held = c.learn_floor.new.self.held in
    let same : c.stop.new.self ≡ stopped_node inside.node held =
    c.stop.ensures.parts ∙ ap (λ (n : NodeParts). record n { role = None }) read.3 in
    subst (λ (n : NodeParts). (config : Config) (m : NodeState) → FlooredStands config now m
    → FlooredRestarts config m now (with_floor n) (Err c.in-Err.refusal)) (sym same)
    (unread_seen inside.node now c.self.view_is held read.0 c.in-Err.refusal read.1 read.2)

pub returns-in-Err-clause-node : goal.returns-in-Err-clause-node
returns-in-Err-clause-node g c =
    let inside = c.self.inside in
    let read = c.in-Err.ensures in
    let held = c.learn_floor.new.self.held in
    let same : c.stop.new.self ≡ stopped_node inside.node held =
    c.stop.ensures.parts ∙ ap (λ (n : NodeParts). record n { role = None }) read.3 in
    subst (λ (f : FlooredParts). (config : Config) (m : NodeState) → NodeStands config f.node m
    → RestartsAs config m f.node c.stop.new.self (Err c.in-Err.refusal)) c.self.view_is
    (subst (λ (n : NodeParts). (config : Config) (m : NodeState) → NodeStands config inside.node m
    → RestartsAs config m inside.node n (Err c.in-Err.refusal)) (sym same)
    (unread_node inside.node held read.0 c.in-Err.refusal read.1 read.2))

pub invariant_of-self-2 : goal.invariant_of-self-2
invariant_of-self-2 g c =
    let inside = c.self.inside in
    let restarts = subst (λ (n : NodeParts). (config : Config) (m : NodeState) → NodeStands config n m
    → RestartsAs config m n c.restart.new.self c.restart.result) c.in-Ok.ensures.0 c.restart.ensures in
    sound_restart inside.floor c.in-Ok.floor inside.node c.restart.new.self c.restart.result c.self.invariant c.in-Ok.ensures.1 restarts

pub returns-clause-machine : goal.returns-clause-machine
returns-clause-machine g c =
    let inside = c.self.inside in
    let restarts = subst (λ (n : NodeParts). (config : Config) (m : NodeState) → NodeStands config n m
    → RestartsAs config m n c.restart.new.self c.restart.result) c.in-Ok.ensures.0 c.restart.ensures in
    restarts_seen inside.node c.args.self.now c.self.view_is c.restart.new.self c.restart.result restarts

pub returns-clause-node : goal.returns-clause-node
returns-clause-node g c =
    let inside = c.self.inside in
    let restarts = subst (λ (n : NodeParts). (config : Config) (m : NodeState) → NodeStands config n m
    → RestartsAs config m n c.restart.new.self c.restart.result) c.in-Ok.ensures.0 c.restart.ensures in
    subst (λ (f : FlooredParts). (config : Config) (m : NodeState) → NodeStands config f.node m
    → RestartsAs config m f.node c.restart.new.self c.restart.result) c.self.view_is restarts
