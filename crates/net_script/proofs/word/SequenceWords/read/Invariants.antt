use Rattle.std.proofs.Common.{◌≡◌, ◌++◌, length, map}
use Rattle.std.specs.List.{All}
use Rattle.net_script.specs.Lines.{words}
use Rattle.net_script.proofs.word.SequenceWords.read.Given as goal

abbrev pub invariant-loop-word : goal.invariant-loop-word
invariant-loop-word g l = (words l.args ≡ map g.W.Word.text l.all.items ++ words l.rest) × All g.W.Word.fits l.all.items

abbrev pub decreases-loop-word : goal.decreases-loop-word
decreases-loop-word g l = length l.rest
