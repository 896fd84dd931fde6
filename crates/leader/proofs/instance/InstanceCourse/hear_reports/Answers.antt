use Rattle.std.proofs.Common.{sym}
use Rattle.leader.proofs.Hearing.{heard_first, not_heard}
use Rattle.leader.proofs.instance.InstanceCourse.hear_reports.Goals as goal

pub returns-in-Some : goal.returns-in-Some
returns-in-Some c =
    heard_first c.args.acceptor c.args.items.now c.args.self.now c.hear_report.new.self c.in-Some.report (sym c.in-Some.ensures)
    c.hear_report.ensures.now c.hear_report.ensures.heard

pub returns-in_default : goal.returns-in_default
returns-in_default c = not_heard c.args.acceptor c.args.items.now c.args.self.now (sym c.in_default.ensures)
