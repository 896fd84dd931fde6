use Rattle.std.proofs.Common.{◌∙◌, ap, arith, sym}
use Rattle.std.specs.List.{list_any}
use Rattle.port.specs.Members.{is_aside}
use Rattle.port.proofs.Taking.{all_items, any_at, none_more}
use Rattle.port.proofs.member.Member.has_aside.Goals as goal

pub returns-then-is_aside : goal.returns-then-is_aside
returns-then-is_aside g c =
    let now = c.args.self.now in
    sym (any_at now.floored.floor now.floored.node.who c.args.inputs.now c.loop-i.i c.index-inputs-i.result
    (omega (arith, c.loop-i-test.true)) c.index-inputs-i.is (sym c.is_aside.ensures ∙ c.if-is_aside.true))

pub loop-i-preserved : goal.loop-i-preserved
loop-i-preserved g c =
    let now = c.args.self.now in
    none_more now.floored.floor now.floored.node.who c.args.inputs.now c.loop-i.i c.index-inputs-i.result
    (omega (arith, c.loop-i-test.true)) c.index-inputs-i.is c.loop-i.invariant (sym c.is_aside.ensures ∙ c.if-is_aside.false)

pub returns : goal.returns
returns g c =
    let now = c.args.self.now in
    sym (ap (list_any (is_aside now.floored.floor)) (sym (all_items now.floored.node.who c.args.inputs.now c.loop-i.i
    (omega (arith, c.loop-i-test.false)))) ∙ c.loop-i.invariant)
