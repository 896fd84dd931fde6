use Rattle.std.proofs.Common.{◌≡◌, ◌++◌, length, map}
use Rattle.net_script.specs.Lines.{words}
use Rattle.net_script.specs.Spelling.{AreItems}
use Rattle.net_script.proofs.word.ItemsWords.read.Given as goal

abbrev pub invariant-loop-word : goal.invariant-loop-word
invariant-loop-word g l = (words l.args ≡ map g.W.Word.text l.items ++ words l.rest) × AreItems g.W.Word.fits l.items

abbrev pub decreases-loop-word : goal.decreases-loop-word
decreases-loop-word g l = length l.rest
