use Rattle.std.proofs.Common.{◌∙◌, ap, set, get_or}
use Rattle.ballot.specs.Slots.{promised}
use Rattle.acceptor.proofs.Promises.{changed_next}
use Rattle.acceptor.proofs.slots.promise_all.Goals as goal

pub loop-place-preserved : goal.loop-place-preserved
loop-place-preserved c =
    ap (set c.loop-place.slots c.loop-place.place) c.promise.ensures
    ∙ ap (λ slots. set slots c.loop-place.place (promised c.args.ballot
    (get_or slots c.loop-place.place c.index-slots-place.result))) c.loop-place.invariant
    ∙ changed_next (promised c.args.ballot) c.args.slots.now c.loop-place.place c.index-slots-place.result c.loop-place-test.true
