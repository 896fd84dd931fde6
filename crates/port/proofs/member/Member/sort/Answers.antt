use Rattle.std.proofs.Common.{◌∙◌, ap, arith, map}
use Rattle.port.specs.Members.{grouped, is_aside}
use Rattle.port.proofs.Taking.{all_items, sorted_more}
use Rattle.port.proofs.member.Member.sort.Goals as goal

pub loop-i-preserved : goal.loop-i-preserved
loop-i-preserved g c =
    let now = c.args.self.now in
    sorted_more now.floored.floor now.floored.node.who c.args.inputs.now c.loop-i.i c.index-inputs-i.result c.in_group-is_aside.result.0
    c.in_group-is_aside.result.1 c.loop-i.group.items c.push.new.self.items c.loop-i.asides.items c.push-in-loop-i.new.self.items
    (omega (arith, c.loop-i-test.true)) c.index-inputs-i.is c.in_group-is_aside.ensures.input c.in_group-is_aside.ensures.aside
    c.in_ok-push.ensures.items c.in_ok-push-2.ensures.items c.loop-i.invariant

pub returns-clause-group : goal.returns-clause-group
returns-clause-group g c =
    let now = c.args.self.now in
    c.loop-i.invariant.group_is ∙ ap (map (grouped now.floored.floor)) (all_items now.floored.node.who c.args.inputs.now c.loop-i.i
    (omega (arith, c.loop-i-test.false)))

pub returns-clause-asides : goal.returns-clause-asides
returns-clause-asides g c =
    let now = c.args.self.now in
    c.loop-i.invariant.asides_are ∙ ap (map (is_aside now.floored.floor)) (all_items now.floored.node.who c.args.inputs.now c.loop-i.i
    (omega (arith, c.loop-i-test.false)))
