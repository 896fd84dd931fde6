use Rattle.std.proofs.Common.{◌∙◌, ℕ, ◌+◌, ◌≤◌, List, length, Some, None, Ok, Err, refl, rules, ap, subst}
use Rattle.std.proofs.lemmas.Result.{err_from_is_err_and}
use Rattle.net_script.specs.TraceReaders.{GivesHeard, IsRead}
use Rattle.audit.proofs.HearingLemmas.{wants_memory, refused}
use Rattle.audit.proofs.NotedLemmas.{told_next, lines_fit, found_text}
use Rattle.audit.proofs.auditing.audit_text_with_hash_key.Goals as goal

pub returns-in_err-heard-clause-err : goal.returns-in_err-heard-clause-err
returns-in_err-heard-clause-err c =
    let so = c.loop-judge.invariant in
    let err = err_from_is_err_and c.from_residual-in_err-heard.result c.from_residual-in_err-heard.ensures.1 in
    refused c.args.bytes.now c.loop-judge.reader.bytes c.from_residual-in_err-heard.result c.in_err-heard.field-0.0 (err.1 ∙ ap Err err.2)
    so.0
    (subst (λ r. GivesHeard c.loop-judge.reader c.hear.new.self so.1 r) c.in_err-heard.was (c.hear.ensures.next so.1 so.2))

pub loop-judge-init : goal.loop-judge-init
loop-judge-init c = (c.new-reader.ensures.bytes, None, c.new-reader.ensures.none, c.in_ok-judge.ensures.ok c.args.bytes.now)

pub overflow_add-lines : goal.overflow_add-lines
overflow_add-lines c =
    let so = c.loop-judge.invariant in
    let got = subst (λ o. GivesHeard c.loop-judge.reader c.hear.new.self so.1 (Ok o)) c.in-Some.is (c.in_ok-heard.ensures.next so.1 so.2) in
    let on = got.2 in
    let told = told_next c.args.bytes.now c.loop-judge.reader c.hear.new.self c.loop-judge.judge c.loop-judge.lines so.1 got.0 so.0
    so.2 so.3 on in
    let fit : c.loop-judge.lines + 1 ≤ length c.args.bytes.now =
    lines_fit c.args.bytes.now (c.loop-judge.lines + 1) on.longer told in
    search (rules, fit)

pub loop-judge-preserved : goal.loop-judge-preserved
loop-judge-preserved c =
    let so = c.loop-judge.invariant in
    let got = subst (λ o. GivesHeard c.loop-judge.reader c.hear.new.self so.1 (Ok o)) c.in-Some.is (c.in_ok-heard.ensures.next so.1 so.2) in
    let on = got.2 in
    let told = told_next c.args.bytes.now c.loop-judge.reader c.hear.new.self c.loop-judge.judge c.loop-judge.lines so.1 got.0 so.0
    so.2 so.3 on in (
      on.bytes ∙ so.0,
      Some on.longer,
      on.read,
      c.in_ok-hear.ensures.ok got.0 c.args.bytes.now c.loop-judge.lines so.1 on.longer got.1 so.3 on.grown refl
          told,
    )

pub returns-clause-ok : goal.returns-clause-ok
returns-clause-ok c =
    let so = c.loop-judge.invariant in
    let read =
    subst (λ o. GivesHeard c.loop-judge.reader c.hear.new.self so.1 (Ok o)) c.in_default.is (c.in_ok-heard.ensures.next so.1 so.2) in
    found_text c.args.bytes.now c.loop-judge.judge c.loop-judge.lines so.1 c.verdict.result
    (subst (λ (bytes : List ℕ). IsRead bytes so.1) so.0 read) so.3 c.verdict.ensures.ok

pub returns-clause-err : goal.returns-clause-err
returns-clause-err c = wants_memory c.args.bytes.now c.verdict.result c.verdict.ensures.err
