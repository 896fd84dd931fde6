use Rattle.std.proofs.Common.{◌≡◌, ◌++◌, length}
use Rattle.picture.specs.Elements.{escaped}
use Rattle.picture.proofs.writing.put_escaped.Given as goal

abbrev pub invariant-loop-rest : goal.invariant-loop-rest
invariant-loop-rest l = l.out.items ++ escaped l.rest ≡ l.fn.out.items ++ escaped l.words

abbrev pub decreases-loop-rest : goal.decreases-loop-rest
decreases-loop-rest l = length l.rest
