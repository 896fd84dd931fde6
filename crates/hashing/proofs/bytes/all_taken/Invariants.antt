use Rattle.std.proofs.Common.{◌≡◌, length}
use Rattle.hashing.specs.Hashing.{words_taken}
use Rattle.hashing.proofs.bytes.all_taken.Given as goal

abbrev pub invariant-loop-word : goal.invariant-loop-word
invariant-loop-word l = words_taken l.multiplier l.state l.rest ≡ words_taken l.multiplier l.first l.bytes

abbrev pub decreases-loop-word : goal.decreases-loop-word
decreases-loop-word l = length l.rest
