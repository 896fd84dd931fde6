use Rattle.std.proofs.Common.{◌≡◌, take, true, Some}
use Rattle.std.specs.List.{list_all}
use Rattle.xid.specs.Places.{is_below}
use Rattle.transactions.specs.Seen.{at_places}
use Rattle.transactions.proofs.numbers.Transactions.are_below.Given as goal

abbrev pub invariant-loop-i : goal.invariant-loop-i
invariant-loop-i l = list_all (is_below (Some l.floor)) (take l.i (at_places l.self l.order.numbers)) ≡ true
