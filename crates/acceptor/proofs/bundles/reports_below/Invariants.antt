use Rattle.wire.specs.Messages.{IsReportBelow}
use Rattle.acceptor.specs.Slots.{slots_of, report_item}
use Rattle.acceptor.proofs.Instances.{Gathers}
use Rattle.acceptor.proofs.bundles.reports_below.Given as goal

abbrev pub invariant-loop-place : goal.invariant-loop-place
invariant-loop-place l =
    Gathers l.tx (report_item (slots_of l.tx l.slots) l.tx l.ballot) (λ item. IsReportBelow l.ballot item.report) l.reports l.place
