use Rattle.std.proofs.Common.{◌≡◌, Some, refl, ap, subst}
use Rattle.stable_record.specs.Held.{armed_with}
use Rattle.node_core.specs.Nodes.{NodeParts}
use Rattle.protocol.specs.Effects.{Config}
use Rattle.protocol.specs.Nodes.{NodeState}
use Rattle.floored.specs.Nodes.{FlooredStands}
use Rattle.port.specs.Members.{MemberParts}
use Rattle.port.proofs.Members.{member_still}
use Rattle.port.proofs.member.Member.arm.Goals as goal

pub invariant_of-self : goal.invariant_of-self
invariant_of-self g c =
    let inside = c.self.inside in
    let is = c.self.invariant in
    member_still inside.sizes inside.node c.arm.new.self inside.told inside.told is
    (ap (λ (n : NodeParts). n.sizes) c.arm.ensures.held) refl is.config _ (c.arm.ensures.armed is.config is.state is.is)

pub returns-clause-held : goal.returns-clause-held
returns-clause-held g c =
    subst (λ (x : MemberParts). c.arm.new.self.node ≡ record x.floored.node { held = armed_with (Some c.args.n) x.floored.node.held })
    c.self.view_is c.arm.ensures.held

pub returns-clause-floor : goal.returns-clause-floor
returns-clause-floor g c =
    subst (λ (x : MemberParts). c.arm.new.self.floor ≡ x.floored.floor) c.self.view_is c.arm.ensures.floor

pub returns-clause-told : goal.returns-clause-told
returns-clause-told g c = ap (λ (x : MemberParts). x.told) c.self.view_is

pub returns-clause-armed : goal.returns-clause-armed
returns-clause-armed g c =
    subst (λ (x : MemberParts). (config : Config) (m : NodeState) → FlooredStands config x.floored m
    → FlooredStands config c.arm.new.self (record m { tear = Some c.args.n })) c.self.view_is c.arm.ensures.armed
