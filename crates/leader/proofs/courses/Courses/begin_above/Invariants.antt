use Rattle.std.proofs.Common.{not, take, Some}
use Rattle.std.specs.Prelude.{filter}
use Rattle.xid.specs.Places.{is_below}
use Rattle.transactions.specs.Seen.{at_places}
use Rattle.leader.proofs.Left.{HasBegun}
use Rattle.leader.proofs.courses.Courses.begin_above.Given as goal

abbrev pub invariant-loop-i : goal.invariant-loop-i
invariant-loop-i l =
    HasBegun l.fn.self (filter (λ tx. not (is_below (Some l.floor) tx)) (take l.i (at_places l.transactions l.begun.numbers))) l.self
