use Rattle.std.proofs.Common.{◌++◌, ◌<◌, length, slice_index, arith, refl}
use Rattle.stable_record.proofs.Written.{more_added}
use Rattle.acceptor.specs.Compaction.{accept_facts}
use Rattle.acceptor.proofs.Writing.{slot_put}
use Rattle.acceptor.proofs.shorter.write_accepts.Goals as goal

pub loop-place-preserved : goal.loop-place-preserved
loop-place-preserved c =
    let place = c.loop-place.place in
    let lt : place < length c.args.tx.now.branches = omega (arith, c.loop-place-test.true, c.count-place-end.ensures.value) in
    let rm = slice_index c.args.managers.now place in
    let one = accept_facts c.args.tx.now rm c.slot_at.result.report in
    more_added c.args.frames.now.items c.loop-place.frames.items c.write_accept.new.frames.items c.loop-place.invariant.put one _ _
    c.loop-place.invariant.adds c.in_ok-write_accept.ensures.ok
    (slot_put c.args.tx.now c.args.slots.now (λ i s. accept_facts c.args.tx.now i s.report) place rm c.slot_at.result
    c.loop-place.invariant.put (c.loop-place.invariant.put ++ one) _ c.count-place-end.ensures.valid lt (c.requires place lt)
    c.slot_at.ensures.value refl c.loop-place.invariant.left)
