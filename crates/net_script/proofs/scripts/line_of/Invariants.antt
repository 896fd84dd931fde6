use Rattle.std.proofs.Common.{length}
use Rattle.net_script.proofs.ScriptLemmas.{Counted}
use Rattle.net_script.proofs.scripts.line_of.Given as goal

abbrev pub invariant-loop-line : goal.invariant-loop-line
invariant-loop-line l = Counted l.bytes l.rest l.number l.passed l.place

abbrev pub decreases-loop-line : goal.decreases-loop-line
decreases-loop-line l = length l.rest
