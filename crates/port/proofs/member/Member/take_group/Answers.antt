use Rattle.std.proofs.Common.{◌≡◌, ◌∙◌, true, ap, map, refl, subst, sym}
use Rattle.node_core.specs.Nodes.{input_of}
use Rattle.floored.specs.Nodes.{are_above}
use Rattle.port.specs.Members.{MemberParts}
use Rattle.port.proofs.Members.{grouped_stands, member_still}
use Rattle.port.proofs.Taking.{group_seen}
use Rattle.port.proofs.member.Member.take_group.Goals as goal

pub step_all-requires-clause-above : goal.step_all-requires-clause-above
step_all-requires-clause-above g c =
    subst (λ (x : MemberParts). are_above x.floored.floor (map input_of c.args.group.now) ≡ true) (sym c.self.view_is) c.requires.above

pub invariant_of-self : goal.invariant_of-self
invariant_of-self g c =
    let inside = c.self.inside in
    let is = c.self.invariant in
    let r = c.step_all.ensures.machine is.config is.state is.is in
    let now = grouped_stands is.config is.state _ inside.node c.step_all.new.self c.step_all.new.outs c.step_all.result r in
    member_still inside.sizes inside.node c.step_all.new.self inside.told inside.told is r.same.sizes_are refl is.config now.0 now.1

pub returns-clause-group : goal.returns-clause-group
returns-clause-group g c =
    group_seen c.self.inside.node c.step_all.new.self c.self.inside.told c.args.self.now c.self.view_is (map input_of c.args.group.now)
    c.step_all.new.outs c.step_all.result c.step_all.ensures.machine c.step_all.ensures.node

pub returns-clause-who : goal.returns-clause-who
returns-clause-who g c =
    let is = c.self.invariant in
    let r = c.step_all.ensures.machine is.config is.state is.is in
    r.same.who_is ∙ ap (λ (x : MemberParts). x.floored.node.who) c.self.view_is
