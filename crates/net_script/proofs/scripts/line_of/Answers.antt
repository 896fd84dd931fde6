use Rattle.std.proofs.Common.{◌∙◌, ◌<◌, sym, arith}
use Rattle.net_script.proofs.ScriptLemmas.{count_passed, count_said, count_found}
use Rattle.net_script.proofs.scripts.line_of.Goals as goal

pub returns-then-passed-place : goal.returns-then-passed-place
returns-then-passed-place c =
    count_found c.loop-line.invariant c.in-Some.ensures (sym c.is_passed_over.ensures ∙ c.if-not-is_passed_over.true) (omega arith)

pub loop-line-preserved-else-passed-place : goal.loop-line-preserved-else-passed-place
loop-line-preserved-else-passed-place c =
    let less : c.loop-line.passed < c.args.place = let few = c.loop-line.invariant.few in omega arith in
    count_said c.loop-line.invariant c.in-Some.ensures (sym c.is_passed_over.ensures ∙ c.if-not-is_passed_over.true) less

pub loop-line-preserved : goal.loop-line-preserved
loop-line-preserved c =
    count_passed c.loop-line.invariant c.in-Some.ensures (sym c.is_passed_over.ensures ∙ c.if-not-is_passed_over.false)
