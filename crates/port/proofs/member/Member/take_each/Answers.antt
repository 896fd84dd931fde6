use Rattle.std.proofs.Common.{◌≡◌, ◌<◌, List, length, map, true, arith, subst}
use Rattle.std.proofs.lemmas.List.{length-map}
use Rattle.protocol.specs.declared.nodes.NodeId.{NodeId}
use Rattle.port.specs.Members.{Item, TakesIf, item_of}
use Rattle.port.proofs.Taking.{all_taken, item_there, mark_there, none_yet, one_taken}
use Rattle.port.proofs.member.Member.take_each.Goals as goal

pub loop-i-init : goal.loop-i-init
loop-i-init g c =
    let items : List Item = map (item_of c.args.self.now.floored.node.who) c.args.inputs.now in
    none_yet (map (λ item. true) items) items c.args.self.now c.args.outs.now

pub loop-i-preserved : goal.loop-i-preserved
loop-i-preserved g c =
    let who = c.args.self.now.floored.node.who in
    let inputs = c.args.inputs.now in
    let items : List Item = map (item_of who) inputs in
    let long : length items ≡ length inputs = length-map inputs (item_of who) in
    let lt : c.loop-i.i < length inputs = omega (arith, c.loop-i-test.true) in
    one_taken c.loop-i.i (map (λ item. true) items) items c.args.self.now c.loop-i.self c.take_if.new.self
    c.args.outs.now c.loop-i.outs true
    (item_of who c.index-inputs-i.result) c.index-outs-i.result c.take_if.new.out c.loop-i.invariant
    (omega (arith, c.loop-i-test.true, long, length-map items (λ item. true)))
    (omega (arith, lt, long)) (omega (arith, lt, c.requires))
    (mark_there items c.loop-i.i (omega (arith, c.loop-i-test.true, long)))
    (item_there who inputs c.loop-i.i c.index-inputs-i.result lt c.index-inputs-i.is) c.index-outs-i.is
    (subst (λ (n : NodeId). TakesIf true (item_of n c.index-inputs-i.result) c.loop-i.self c.take_if.new.self c.index-outs-i.result
    c.take_if.new.out) c.loop-i.invariant.who_is c.take_if.ensures.takes) c.take_if.ensures.who

pub returns : goal.returns
returns g c =
    let who = c.args.self.now.floored.node.who in
    let inputs = c.args.inputs.now in
    let items : List Item = map (item_of who) inputs in
    let long : length items ≡ length inputs = length-map inputs (item_of who) in
    all_taken c.loop-i.i (map (λ item. true) items) items c.args.self.now c.loop-i.self c.args.outs.now c.loop-i.outs
    c.loop-i.invariant (omega (arith, c.loop-i-test.false, long, length-map items (λ item. true)))
    (omega (arith, c.loop-i-test.false, long)) (omega (arith, c.loop-i-test.false, c.requires))
