use Rattle.std.proofs.Common.{◌≡◌, true, take}
use Rattle.xid.specs.Text.{lacks}
use Rattle.xid.proofs.text.split_once.Given as goal

abbrev pub invariant-loop-at : goal.invariant-loop-at
invariant-loop-at l = lacks l.mark (take l.at l.text) ≡ true
