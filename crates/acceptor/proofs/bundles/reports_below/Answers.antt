use Rattle.std.proofs.Common.{◌+◌, sym, subst, arith}
use Rattle.wire.specs.Messages.{IsReportBelow}
use Rattle.acceptor.specs.Slots.{slots_of, report_item}
use Rattle.acceptor.proofs.Instances.{Gathers, gathers_next, gathered, are_instances}
use Rattle.acceptor.proofs.Reports.{own_report, reports_told}
use Rattle.acceptor.proofs.bundles.reports_below.Goals as goal

pub loop-place-preserved : goal.loop-place-preserved
loop-place-preserved c =
    subst (λ items. Gathers c.args.tx.now (report_item (slots_of c.args.tx.now c.args.slots.now) c.args.tx.now c.args.ballot)
    (λ item. IsReportBelow c.args.ballot item.report) items (c.loop-place.place + 1)) (sym c.put_item.ensures)
    (gathers_next c.report_at-item.result (omega arith) c.report_at-item.ensures.value c.report_at-item.ensures.below
    c.loop-place.invariant)

pub returns-clause-value : goal.returns-clause-value
returns-clause-value c =
    reports_told (slots_of c.args.tx.now c.args.slots.now) c.args.tx.now c.args.ballot c.loop-place.reports c.loop-place.invariant.some
    (gathered (omega arith) c.loop-place.invariant)

pub returns-clause-instances : goal.returns-clause-instances
returns-clause-instances c =
    are_instances (λ item. item.instance) (report_item (slots_of c.args.tx.now c.args.slots.now) c.args.tx.now c.args.ballot)
    (own_report (slots_of c.args.tx.now c.args.slots.now) c.args.tx.now c.args.ballot)
    c.args.tx.now c.loop-place.reports c.count-place-end.ensures.valid c.loop-place.invariant.some
    (gathered (omega arith) c.loop-place.invariant)
