use Rattle.std.proofs.Common.{◌≡◌, true, take}
use Rattle.std.specs.List.{list_all}
use Rattle.audit.specs.Books.{has_committed_everywhere}
use Rattle.audit.proofs.serial.are_all_committed.Given as goal

abbrev pub invariant-loop-number : goal.invariant-loop-number
invariant-loop-number l = list_all (has_committed_everywhere l.ledger.views) (take l.number l.ledger.firsts) ≡ true
