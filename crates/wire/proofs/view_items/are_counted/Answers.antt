use Rattle.std.proofs.Common.{◌≡◌, ◌+◌, ◌-◌, suc, sym, ◌∙◌, arith}
use Rattle.wire.specs.SpelledItems.{is_item}
use Rattle.wire.proofs.CountedItems.{at_end, end_is}
use Rattle.wire.proofs.view_items.are_counted.Goals as goal

pub returns-in_default : goal.returns-in_default
returns-in_default g c =
    let k : c.args.count - c.loop.counter ≡ suc (c.args.count - (c.loop.counter + 1)) = omega (arith, c.loop-test.true) in
    sym (rw k (c.in_default.ensures.left (c.args.count - (c.loop.counter + 1)))) ∙ c.loop.invariant

pub loop-preserved : goal.loop-preserved
loop-preserved g c =
    let k : c.args.count - c.loop.counter ≡ suc (c.args.count - (c.loop.counter + 1)) = omega (arith, c.loop-test.true) in
    sym (rw k (c.in-Some.ensures.left (c.args.count - (c.loop.counter + 1)))) ∙ c.loop.invariant

pub returns : goal.returns
returns g c =
    let t = g.T.Item in
    c.is_empty.ensures ∙ end_is c.loop.rest.now ∙ sym
    (at_end t.at (is_item t.about (t.is_below c.args.ballot) c.args.tx.now) t.about c.loop.least c.args.count c.loop.counter
    c.loop.rest.now c.loop-test.false) ∙ c.loop.invariant
