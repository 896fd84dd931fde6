use Rattle.std.proofs.Common.{◌++◌, ◌<◌, length, slice_index, arith, refl, subst}
use Rattle.stable_record.specs.Written.{AddsFacts}
use Rattle.stable_record.proofs.Written.{more_added}
use Rattle.acceptor.specs.Slots.{slots_of}
use Rattle.acceptor.specs.Compaction.{common_ballot, promise_facts}
use Rattle.acceptor.proofs.Writing.{slot_put}
use Rattle.acceptor.proofs.shorter.write_promises.Goals as goal

pub loop-place-preserved : goal.loop-place-preserved
loop-place-preserved c =
    let tx = c.args.tx.now in
    let slots = c.args.slots.now in
    let place = c.loop-place.place in
    let lt : place < length tx.branches = omega (arith, c.loop-place-test.true, c.count-place-end.ensures.value) in
    let rm = slice_index c.args.managers.now place in
    let one = promise_facts tx (common_ballot (slots_of tx slots) tx) rm c.slot_at.result in
    more_added c.args.frames.now.items c.loop-place.frames.items c.write_promise.new.frames.items c.loop-place.invariant.put one _ _
    c.loop-place.invariant.adds
    (subst (λ common. AddsFacts c.loop-place.frames.items c.write_promise.new.frames.items
    (promise_facts tx common rm c.slot_at.result)) c.requires.common c.in_ok-write_promise.ensures.ok)
    (slot_put tx slots (promise_facts tx (common_ballot (slots_of tx slots) tx)) place rm c.slot_at.result c.loop-place.invariant.put
    (c.loop-place.invariant.put ++ one) _ c.count-place-end.ensures.valid lt (c.requires.managers place lt) c.slot_at.ensures.value
    refl c.loop-place.invariant.left)
