use Rattle.std.proofs.Common.{◌≡◌, ◌<◌, List, length, map, get_or, arith, sym, subst}
use Rattle.std.proofs.lemmas.List.{length-map}
use Rattle.protocol.specs.declared.nodes.NodeId.{NodeId}
use Rattle.node_core.specs.declared.output.Output.{Output}
use Rattle.port.specs.Members.{Item, TakesIf, item_of}
use Rattle.port.proofs.Taking.{all_taken, item_there, none_yet, one_taken}
use Rattle.port.proofs.member.Member.take_marked.Goals as goal

pub loop-i-init : goal.loop-i-init
loop-i-init g c =
    none_yet c.args.marks.now (map (item_of c.args.self.now.floored.node.who) c.args.inputs.now) c.args.self.now c.args.outs.now

pub loop-i-preserved : goal.loop-i-preserved
loop-i-preserved g c =
    let who = c.args.self.now.floored.node.who in
    let inputs = c.args.inputs.now in
    let items : List Item = map (item_of who) inputs in
    let long : length items ≡ length inputs = length-map inputs (item_of who) in
    let lt : c.loop-i.i < length inputs = omega (arith, c.loop-i-test.true) in
    one_taken c.loop-i.i c.args.marks.now items c.args.self.now c.loop-i.self c.take_if.new.self c.args.outs.now c.loop-i.outs
    c.mark_at.result (item_of who c.index-inputs-i.result) c.index-outs-i.result c.take_if.new.out c.loop-i.invariant
    (omega (arith, c.loop-i-test.true, c.requires.marks)) (omega (arith, lt, long)) (omega (arith, lt, c.requires.places)) c.mark_at.ensures
    (item_there who inputs c.loop-i.i c.index-inputs-i.result lt c.index-inputs-i.is) c.index-outs-i.is
    (subst (λ (out : Output). TakesIf c.mark_at.result (item_of who c.index-inputs-i.result) c.loop-i.self c.take_if.new.self out
    c.take_if.new.out) (sym c.index-outs-i.is)
    (subst (λ (n : NodeId). TakesIf c.mark_at.result (item_of n c.index-inputs-i.result) c.loop-i.self c.take_if.new.self
    (get_or c.loop-i.outs c.loop-i.i c.index-outs-i.result) c.take_if.new.out) c.loop-i.invariant.who_is c.take_if.ensures.takes))
    c.take_if.ensures.who

pub returns : goal.returns
returns g c =
    let who = c.args.self.now.floored.node.who in
    let inputs = c.args.inputs.now in
    let items : List Item = map (item_of who) inputs in
    let long : length items ≡ length inputs = length-map inputs (item_of who) in
    all_taken c.loop-i.i c.args.marks.now items c.args.self.now c.loop-i.self c.args.outs.now c.loop-i.outs
    c.loop-i.invariant (omega (arith, c.loop-i-test.false, c.requires.marks))
    (omega (arith, c.loop-i-test.false, long)) (omega (arith, c.loop-i-test.false, c.requires.places))
