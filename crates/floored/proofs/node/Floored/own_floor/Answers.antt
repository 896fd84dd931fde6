use Rattle.std.proofs.Common.{◌∙◌, ap, is_none, sym}
use Rattle.floored.specs.Nodes.{FlooredParts}
use Rattle.floored.proofs.Asked.{learned_own, learned_sound}
use Rattle.floored.proofs.node.Floored.own_floor.Goals as goal

pub invariant_of-self : goal.invariant_of-self
invariant_of-self g c =
    let inside = c.self.inside in
    learned_sound inside.floor inside.node c.learn_floor.new.self c.learn_floor.result c.self.invariant
    (ap (λ (f : FlooredParts). is_none f.node.role) c.self.view_is ∙ sym c.is_down.ensures ∙ c.if-not-is_down.false) c.learn_floor.ensures

pub returns : goal.returns
returns g c =
    learned_own c.self.inside.node c.learn_floor.new.self c.args.self.now c.self.view_is c.learn_floor.result
    (sym c.is_down.ensures ∙ c.if-not-is_down.false) c.learn_floor.ensures
