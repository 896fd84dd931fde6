use Rattle.std.proofs.Common.{◌≡◌, ◌∙◌, ◌+◌, sym, subst, refl, rules, Err, inl, inr}
use Rattle.net_script.specs.Scripts.{items_so_far, ReadsLine, Refuses}
use Rattle.net_script.proofs.Arms.{at_line_ok, refused_at}
use Rattle.net_script.proofs.ScriptLemmas.{step_passed, step_said, step_fails}
use Rattle.net_script.proofs.scripts.read_script.Goals as goal

pub returns-in_err-longer-clause-err : goal.returns-in_err-longer-clause-err
returns-in_err-longer-clause-err c =
    let note = sym c.is_passed_over.ensures ∙ c.if-not-is_passed_over.true in
    let reads = ReadsLine (items_so_far c.loop-line.script) c.in-Some.line.now in
    let refused : c.from_residual.result ≡ Err c.in_err-longer.field-0.0 = search rules in
    rw refused
    (refused_at (c.loop-line.number + 1) c.read_line.result _ (Refuses c.args.bytes.now) (sym c.at_line.ensures ∙ c.in_err-longer.was)
    (inl refl) (λ wrong. inr (
      c.loop-line.number + 1,
      refl,
      step_fails c.loop-line.invariant c.in-Some.ensures note (subst reads wrong c.read_line.ensures),
    )))

pub loop-line-preserved-in_ok-longer : goal.loop-line-preserved-in_ok-longer
loop-line-preserved-in_ok-longer c =
    let note = sym c.is_passed_over.ensures ∙ c.if-not-is_passed_over.true in
    let reads = ReadsLine (items_so_far c.loop-line.script) c.in-Some.line.now in
    step_said c.in_ok-longer.longer c.loop-line.invariant c.in-Some.ensures note
    (subst reads (at_line_ok _ _ _ (sym c.at_line.ensures ∙ c.in_ok-longer.was)) c.read_line.ensures)

pub loop-line-preserved : goal.loop-line-preserved
loop-line-preserved c = step_passed c.loop-line.invariant c.in-Some.ensures (sym c.is_passed_over.ensures ∙ c.if-not-is_passed_over.false)
