use Rattle.std.proofs.Common.{length}
use Rattle.net_script.proofs.ScriptLemmas.{Progress}
use Rattle.net_script.proofs.scripts.read_script.Given as goal

abbrev pub invariant-loop-line : goal.invariant-loop-line
invariant-loop-line l = Progress l.bytes l.rest l.number l.script

abbrev pub decreases-loop-line : goal.decreases-loop-line
decreases-loop-line l = length l.rest
