use Rattle.net_script.proofs.WritingLemmas.{IsWrittenBut}
use Rattle.net_script.proofs.writing.write_text.Given as goal

abbrev pub invariant-loop : goal.invariant-loop
invariant-loop g l = IsWrittenBut (g.W.Write.contents l.initial.out) (g.W.Write.contents l.out) l.text l.rest
