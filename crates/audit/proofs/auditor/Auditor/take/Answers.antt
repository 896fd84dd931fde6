use Rattle.std.proofs.Common.{◌∙◌, ap, sym}
use Rattle.net_script.specs.TraceReaders.{begun_with}
use Rattle.net_script.specs.declared.trace_lines.TraceLine.TheVariants.{Changed}
use Rattle.audit.proofs.HearingLemmas.{on_ok, cluster_line, table_line, event_line, serve_line, change_line, sent_line, notice_line}
use Rattle.audit.proofs.HearingLemmas.{rows_line}
use Rattle.audit.proofs.auditor.Auditor.take.Goals as goal

pub returns-in-Cluster-clause-ok : goal.returns-in-Cluster-clause-ok
returns-in-Cluster-clause-ok c = λ before after heard e.
    cluster_line c.args.self.now c.in-Cluster.field-0 before after heard (e ∙ ap (begun_with before) c.in-Cluster.is)

pub returns-in-Contents-clause-ok : goal.returns-in-Contents-clause-ok
returns-in-Contents-clause-ok c =
    on_ok c.take_table.result (λ step before after heard e.
    table_line c.args.self.now c.take_table.new.self c.in-Contents.table step before after heard
    (e ∙ ap (begun_with before) c.in-Contents.is)) c.take_table.ensures.ok

pub returns-in-Happened-clause-ok : goal.returns-in-Happened-clause-ok
returns-in-Happened-clause-ok c =
    on_ok c.take_event.result (λ step before after heard e.
    event_line c.args.self.now c.take_event.new.self c.in-Happened.event c.in-Happened.answer step before after heard
    (e ∙ ap (begun_with before) c.in-Happened.is)) c.take_event.ensures.ok

pub returns-in-Served-clause-ok : goal.returns-in-Served-clause-ok
returns-in-Served-clause-ok c = λ before after heard e.
    serve_line c.args.self.now c.in-Served.field-0 c.in-Served.field-1 before after heard (e ∙ ap (begun_with before) c.in-Served.is)

pub returns-in-Changed-clause-ok : goal.returns-in-Changed-clause-ok
returns-in-Changed-clause-ok c =
    on_ok c.take_change.result (λ step before after heard e.
    change_line c.args.self.now c.take_change.new.self c.get.result.now step before after heard
    (e ∙ ap (begun_with before) c.in-Changed.is ∙ ap (λ change. begun_with before (Changed change)) (sym c.get.ensures)))
    c.take_change.ensures.ok

pub returns-in-Datagram-clause-ok : goal.returns-in-Datagram-clause-ok
returns-in-Datagram-clause-ok c = λ before after heard e.
    sent_line c.args.self.now c.in-Datagram.field-0 before after heard (e ∙ ap (begun_with before) c.in-Datagram.is)

pub returns-in-Notice-clause-ok : goal.returns-in-Notice-clause-ok
returns-in-Notice-clause-ok c = λ before after heard e.
    notice_line c.args.self.now c.in-Notice.field-0 before after heard (e ∙ ap (begun_with before) c.in-Notice.is)

pub returns-clause-ok : goal.returns-clause-ok
returns-clause-ok c =
    on_ok c.take_rows.result (λ step before after heard e.
    rows_line c.args.self.now c.take_rows.new.self c.in-Final.field-0 c.in-Final.rows step before after heard
    (e ∙ ap (begun_with before) c.in-Final.is)) c.take_rows.ensures.ok
