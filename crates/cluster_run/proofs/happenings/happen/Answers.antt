use Rattle.std.proofs.Common.{◌≡◌, List, [], ◌++◌, ℕ, Option, ap, inl, rules}
use Rattle.std.specs.List.{flat_map}
use Rattle.std.proofs.lemmas.Result.{on_ok_weaker}
use Rattle.safety.specs.Vocabulary.{Step}
use Rattle.cluster.specs.Clusters.{sent_after, step_by, told_after}
use Rattle.net_script.specs.declared.values.Command.TheVariants.{Do}
use Rattle.net_script.specs.Events.{event_words}
use Rattle.net_script.specs.Traces.{notice_line, outcome_text, step_text}
use Rattle.net_script.specs.Writing.{IsFileRefusal}
use Rattle.cluster_run.specs.Happenings.{IsDoneBy}
use Rattle.cluster_run.specs.Running.{PrintsShort, StopsIn, so_far}
use Rattle.cluster_run.proofs.Configs.{handed_on}
use Rattle.cluster_run.proofs.Lines.{step_joined}
use Rattle.cluster_run.proofs.Printing.{if_err_more}
use Rattle.cluster_run.proofs.Stepping.{happens_on, happens_unprinted, happens_unwritten}
use Rattle.cluster_run.proofs.happenings.happen.Goals as goal

pub returns-in_err-write_lines-clause-err : goal.returns-in_err-write_lines-clause-err
returns-in_err-write_lines-clause-err g c =
    let out : Option (List ℕ) = g.W.Write.contents c.args.out.now in
    let step : Step = step_by c.args.event.now c.step_into.new.answered c.args.cluster.now c.step_into.new.self in
    handed_on
    (StopsIn (λ config world. IsDoneBy config world (Do c.args.event.now)) c.args.cluster.now (so_far c.args.piece.now.items out) out)
    c.from_residual.result c.in_err-write_lines.field-0.0 (search rules) (
      inl c.in_err-write_lines.ensures,
      happens_unwritten c.args.cluster.now c.step_into.new.self c.args.event.now step c.args.piece.now.items out c.step_into.ensures.occurs,
    )

pub returns-in_err-write_notices-clause-err : goal.returns-in_err-write_notices-clause-err
returns-in_err-write_notices-clause-err g c =
    let out : Option (List ℕ) = g.W.Write.contents c.args.out.now in
    let step : Step = step_by c.args.event.now c.step_into.new.answered c.args.cluster.now c.step_into.new.self in
    handed_on
    (StopsIn (λ config world. IsDoneBy config world (Do c.args.event.now)) c.args.cluster.now (so_far c.args.piece.now.items out) out)
    c.from_residual-in_err-write_notices.result c.in_err-write_notices.field-0.0 (search rules) (
      inl c.in_err-write_notices.ensures,
      happens_unwritten c.args.cluster.now c.step_into.new.self c.args.event.now step c.args.piece.now.items out c.step_into.ensures.occurs,
    )

pub returns-clause-ok : goal.returns-clause-ok
returns-clause-ok g c =
    let new = c.step_into.new.self in
    let answered = c.step_into.new.answered in
    let step : Step = step_by c.args.event.now answered c.args.cluster.now new in
    let text : c.write_notices.new.piece.items ≡ c.args.piece.now.items ++ step_text step =
    step_joined c.args.piece.now.items c.write_lines.new.piece.items c.write_notices.new.piece.items step
    (outcome_text (event_words step.event) step.answer step.now (sent_after c.datagram_count-sent_before.result new.network))
    (flat_map notice_line (told_after c.notice_count-told_before.result new.notices)) c.in_ok-write_lines.ensures
    c.in_ok-write_notices.ensures
    (ap (λ (n : ℕ). outcome_text (event_words step.event) step.answer step.now (sent_after n new.network))
    c.datagram_count-sent_before.ensures)
    (ap (λ (n : ℕ). flat_map notice_line (told_after n new.notices)) c.notice_count-told_before.ensures) in
    on_ok_weaker c.print_long.result (λ printed.
    happens_on c.args.cluster.now new c.args.event.now step c.args.piece.now.items c.write_notices.new.piece.items
    (g.W.Write.contents c.args.out.now) (g.W.Write.contents c.print_long.new.out) c.print_long.new.piece.items c.step_into.ensures.occurs
    text printed) c.print_long.ensures.ok

pub returns-clause-err : goal.returns-clause-err
returns-clause-err g c =
    let old : Option (List ℕ) = g.W.Write.contents c.args.out.now in
    let out : Option (List ℕ) = g.W.Write.contents c.print_long.new.out in
    let new = c.step_into.new.self in
    let answered = c.step_into.new.answered in
    let step : Step = step_by c.args.event.now answered c.args.cluster.now new in
    let text : c.write_notices.new.piece.items ≡ c.args.piece.now.items ++ step_text step =
    step_joined c.args.piece.now.items c.write_lines.new.piece.items c.write_notices.new.piece.items step
    (outcome_text (event_words step.event) step.answer step.now (sent_after c.datagram_count-sent_before.result new.network))
    (flat_map notice_line (told_after c.notice_count-told_before.result new.notices)) c.in_ok-write_lines.ensures
    c.in_ok-write_notices.ensures
    (ap (λ (n : ℕ). outcome_text (event_words step.event) step.answer step.now (sent_after n new.network))
    c.datagram_count-sent_before.ensures)
    (ap (λ (n : ℕ). flat_map notice_line (told_after n new.notices)) c.notice_count-told_before.ensures) in
    if_err_more (λ e. IsFileRefusal e × PrintsShort (so_far c.write_notices.new.piece.items old) out [])
    (StopsIn (λ config world. IsDoneBy config world (Do c.args.event.now)) c.args.cluster.now (so_far c.args.piece.now.items old) out)
    c.print_long.result (λ e stopped. (
      stopped.0,
      happens_unprinted c.args.cluster.now new c.args.event.now step c.args.piece.now.items c.write_notices.new.piece.items old out
          c.step_into.ensures.occurs text stopped.1,
    )) c.print_long.ensures.err
