use Rattle.std.proofs.Common.{◌≡◌, drop}
use Rattle.net_script.specs.Lines.{words}
use Rattle.net_script.specs.Scripts.{is_note}
use Rattle.net_script.proofs.scripts.is_passed_over.Given as goal

abbrev pub invariant-loop-byte : goal.invariant-loop-byte
invariant-loop-byte l = is_note (words l.line) ≡ is_note (words (drop l.byte-index l.line))
