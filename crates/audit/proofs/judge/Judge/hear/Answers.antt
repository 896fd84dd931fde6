use Rattle.std.proofs.Common.{◌∙◌, not, Some, refl, sym, ap, subst}
use Rattle.std.specs.Option.{option_copied}
use Rattle.net_script.specs.TraceReaders.{begun_with}
use Rattle.net_script.specs.Telling.{sent_of, IsHeard}
use Rattle.xid.specs.Places.{is_below}
use Rattle.audit.specs.FloorBooks.{floor_before}
use Rattle.audit.specs.Noting.{HasNoted}
use Rattle.audit.specs.declared.judge.Judge.{Judge}
use Rattle.audit.proofs.HearingLemmas.{on_ok, sent_line}
use Rattle.audit.proofs.FloorLines.{sent_above}
use Rattle.audit.proofs.NotedLemmas.{same_judge, noted_above, heard_sent, heard_nothing, sent_by}
use Rattle.audit.proofs.judge.Judge.hear.Goals as goal

pub returns-in_default-clause-ok : goal.returns-in_default-clause-ok
returns-in_default-clause-ok c = λ said bytes count before after is noted e next told.
    absurd (heard_nothing c.args.reader.now.known c.in-Datagram.told said (sym c.tx.ensures ∙ ap option_copied c.in_default.is)
    (subst (λ heard. IsHeard c.args.reader.now.known heard said) c.in-Datagram.is is))

pub returns-in-Some-clause-ok : goal.returns-in-Some-clause-ok
returns-in-Some-clause-ok c = λ said bytes count before after is noted e next told.
    let old = c.args.self.now in
    let line = c.args.line in
    let tx = c.in-Some.tx.now in
    let sent = sent_of tx c.in-Datagram.told in
    let says =
    heard_sent c.args.reader.now.known c.in-Datagram.told said tx (sym c.tx.ensures ∙ ap option_copied c.in-Some.is)
    (subst (λ heard. IsHeard c.args.reader.now.known heard said) c.in-Datagram.is is) in
    let e' = e ∙ ap (begun_with before) says in
    let above = not c.is_below-above.result in
    let so =
    ap not (c.is_below-above.ensures ∙ ap (λ who. is_below (floor_before old.floors who) tx) c.sender.ensures)
    ∙ sent_by old.floors tx c.in-Datagram.told in
    let both = sent_above old.floors sent above so before after noted.floors e' in
    subst (λ (j : Judge). HasNoted bytes j line (Some after))
    (same_judge _ c.note.new.self (sym c.note.ensures.rest.0) (sym c.note.ensures.rest.1) (sym c.note.ensures.fault))
    (noted_above bytes old count line before _ after noted e' next told old.auditor
    (sent_line old.auditor sent before after noted.heard e') old.floors both.0 above both.1 refl)

pub returns-in-Line-clause-ok : goal.returns-in-Line-clause-ok
returns-in-Line-clause-ok c =
    on_ok c.take.result (λ step said bytes count before after is noted e next told.
    step bytes count before after noted
    (e ∙ ap (begun_with before) (subst (λ heard. IsHeard c.args.reader.now.known heard said) c.in-Line.is is)) next told) c.take.ensures.ok
