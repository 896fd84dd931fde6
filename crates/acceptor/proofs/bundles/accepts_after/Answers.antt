use Rattle.std.proofs.Common.{◌+◌, sym, subst, arith}
use Rattle.wire.specs.Messages.{IsBallot}
use Rattle.protocol.specs.Acceptors.{report_after, accept_item}
use Rattle.acceptor.specs.Slots.{slots_of}
use Rattle.acceptor.proofs.Instances.{Gathers, gathers_next, gathered, are_instances, is_gathered}
use Rattle.acceptor.proofs.Reports.{own_accept, accept_told}
use Rattle.acceptor.proofs.bundles.accepts_after.Goals as goal

pub loop-place-preserved : goal.loop-place-preserved
loop-place-preserved c =
    subst (λ items. Gathers c.args.tx.now
    (λ j. accept_item j (report_after (slots_of c.args.tx.now c.args.slots.now) c.args.tx.now c.args.accepted.instance
    c.args.accepted.ballot c.args.accepted.vote j))
    (λ item. IsBallot item.ballot) items (c.loop-place.place + 1)) (sym c.put_item.ensures)
    (gathers_next c.accept_at-item.result (omega arith) c.accept_at-item.ensures.value c.accept_at-item.ensures.ballot
    c.loop-place.invariant)

pub returns-clause-value : goal.returns-clause-value
returns-clause-value c =
    is_gathered (λ item. item.instance)
    (λ j. accept_item j (report_after (slots_of c.args.tx.now c.args.slots.now) c.args.tx.now c.args.accepted.instance
    c.args.accepted.ballot c.args.accepted.vote j))
    (own_accept (report_after (slots_of c.args.tx.now c.args.slots.now) c.args.tx.now c.args.accepted.instance c.args.accepted.ballot
    c.args.accepted.vote))
    c.args.tx.now c.loop-place.accepts c.args.accepted.instance
    (record { instance = c.args.accepted.instance; ballot = c.args.accepted.ballot; vote = c.args.accepted.vote }) c.requires
    (accept_told (slots_of c.args.tx.now c.args.slots.now) c.args.tx.now c.args.accepted.instance c.args.accepted.ballot
    c.args.accepted.vote)
    (gathered (omega arith) c.loop-place.invariant)

pub returns-clause-instances : goal.returns-clause-instances
returns-clause-instances c =
    are_instances (λ item. item.instance)
    (λ j. accept_item j (report_after (slots_of c.args.tx.now c.args.slots.now) c.args.tx.now c.args.accepted.instance
    c.args.accepted.ballot c.args.accepted.vote j))
    (own_accept (report_after (slots_of c.args.tx.now c.args.slots.now) c.args.tx.now c.args.accepted.instance c.args.accepted.ballot
    c.args.accepted.vote))
    c.args.tx.now c.loop-place.accepts c.count-place-end.ensures.valid c.loop-place.invariant.some
    (gathered (omega arith) c.loop-place.invariant)
