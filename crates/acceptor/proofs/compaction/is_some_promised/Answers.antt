use Rattle.std.proofs.Common.{◌∙◌, ◌<◌, length, sym, ap, arith}
use Rattle.acceptor.specs.Slots.{slot_of}
use Rattle.acceptor.specs.Compaction.{is_promised}
use Rattle.acceptor.proofs.Instances.{any_goes_on, any_stops, any_ends}
use Rattle.acceptor.proofs.Least.{slot_there}
use Rattle.acceptor.proofs.compaction.is_some_promised.Goals as goal

pub loop-place-preserved : goal.loop-place-preserved
loop-place-preserved c =
    let tx = c.args.tx.now in
    let slots = c.args.slots.now in
    let place = c.loop-place.place in
    let lt : place < length tx.branches = omega (arith, c.loop-place-test.true, c.count-place-end.ensures.value) in
    any_goes_on tx (λ i. is_promised c.args.ballot (slot_of tx slots i)) place lt
    (sym (ap (is_promised c.args.ballot) (slot_there tx c.count-place-end.ensures.valid slots place c.slot_at.result lt
    c.slot_at.ensures.value)) ∙ sym c.is_promised.ensures ∙ c.if-is_promised.false)
    c.loop-place.invariant

pub returns-then-is_promised : goal.returns-then-is_promised
returns-then-is_promised c =
    let tx = c.args.tx.now in
    let slots = c.args.slots.now in
    let place = c.loop-place.place in
    let lt : place < length tx.branches = omega (arith, c.loop-place-test.true, c.count-place-end.ensures.value) in
    any_stops tx (λ i. is_promised c.args.ballot (slot_of tx slots i)) place lt
    (sym (ap (is_promised c.args.ballot) (slot_there tx c.count-place-end.ensures.valid slots place c.slot_at.result lt
    c.slot_at.ensures.value)) ∙ sym c.is_promised.ensures ∙ c.if-is_promised.true)
    c.loop-place.invariant

pub returns : goal.returns
returns c =
    any_ends c.args.tx.now (λ i. is_promised c.args.ballot (slot_of c.args.tx.now c.args.slots.now i)) c.loop-place.place
    (omega (arith, c.loop-place-test.false, c.count-place-end.ensures.value)) c.loop-place.invariant
