use Rattle.std.proofs.Common.{◌∙◌, ◌+◌, min, map, drop, fold, ap, arith}
use Rattle.xid.specs.Transactions.{participants}
use Rattle.acceptor.specs.Slots.{slot_of}
use Rattle.acceptor.proofs.Least.{least_begins, least_next, least_ends}
use Rattle.acceptor.proofs.compaction.least_ballot.Goals as goal

pub loop-place-init : goal.loop-place-init
loop-place-init c =
    least_begins c.args.tx.now c.count-place-end.ensures.valid c.args.slots.now c.slot_at-first.result c.slot_at-first.ensures.value

pub loop-place-preserved : goal.loop-place-preserved
loop-place-preserved c =
    let tx = c.args.tx.now in
    let slots = c.args.slots.now in
    ap (λ n. fold min n (map (λ i. (slot_of tx slots i).mbal) (drop (c.loop-place.place + 1) (participants tx)))) c.min-least.ensures
    ∙ least_next tx c.count-place-end.ensures.valid slots c.loop-place.place c.loop-place.least c.slot_at-slot.result
    (omega (arith, c.loop-place-test.true, c.count-place-end.ensures.value)) c.slot_at-slot.ensures.value c.loop-place.invariant

pub returns : goal.returns
returns c =
    least_ends c.args.tx.now c.count-place-end.ensures.valid c.args.slots.now c.loop-place.place c.loop-place.least
    (omega (arith, c.loop-place-test.false, c.count-place-end.ensures.value)) c.loop-place.invariant
