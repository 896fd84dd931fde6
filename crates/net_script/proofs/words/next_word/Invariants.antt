use Rattle.std.proofs.Common.{◌≡◌, ◌≤◌, length}
use Rattle.net_script.specs.Lines.{words}
use Rattle.net_script.proofs.words.next_word.Given as goal

abbrev pub invariant-loop-piece : goal.invariant-loop-piece
invariant-loop-piece l = (words l.rest ≡ words l.line) × (length l.rest ≤ length l.line)

abbrev pub decreases-loop-piece : goal.decreases-loop-piece
decreases-loop-piece l = length l.rest
