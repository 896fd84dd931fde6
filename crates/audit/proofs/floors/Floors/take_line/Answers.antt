use Rattle.std.proofs.Common.{◌∙◌, ap, sym}
use Rattle.net_script.specs.declared.trace_lines.TraceLine.TheVariants.{Changed, Datagram}
use Rattle.net_script.specs.TraceReaders.{begun_with}
use Rattle.audit.proofs.FloorLines.{change_above, sent_above, notice_above}
use Rattle.audit.proofs.floors.Floors.take_line.Goals as goal

pub returns-in-Changed-clause-ok : goal.returns-in-Changed-clause-ok
returns-in-Changed-clause-ok c = λ before after heard e.
    change_above c.args.self.now c.get.result.now c.allow_change.result c.allow_change.ensures before after heard
    (e ∙ ap (begun_with before) c.in-Changed.is ∙ ap (λ change. begun_with before (Changed change)) (sym c.get.ensures))

pub returns-in-Datagram-clause-ok : goal.returns-in-Datagram-clause-ok
returns-in-Datagram-clause-ok c = λ before after heard e.
    sent_above c.args.self.now c.get-in-Datagram.result.now c.allow_sent.result c.allow_sent.ensures before after heard
    (e ∙ ap (begun_with before) c.in-Datagram.is ∙ ap (λ sent. begun_with before (Datagram sent)) (sym c.get-in-Datagram.ensures))

pub returns-in_ok-take_notice-in-Notice-clause-ok : goal.returns-in_ok-take_notice-in-Notice-clause-ok
returns-in_ok-take_notice-in-Notice-clause-ok c = λ before after heard e.
    notice_above c.args.self.now c.take_notice.new.self c.in-Notice.told c.in_ok-take_notice-in-Notice.ensures.rest
    c.in_ok-take_notice-in-Notice.ensures.ok before after heard (e ∙ ap (begun_with before) c.in-Notice.is)
