use Rattle.std.proofs.Common.{take, not}
use Rattle.std.specs.Prelude.{Some, filter, filter_map, slice_get}
use Rattle.std.specs.List.{IsDistinct}
use Rattle.xid.specs.Places.{is_below}
use Rattle.xid.specs.Transactions.{tx_eq}
use Rattle.resource_manager.specs.Forgetting.{AreCoursesOf}
use Rattle.resource_manager.proofs.forgetting.left_of.Given as goal

abbrev pub invariant-loop-number : goal.invariant-loop-number
invariant-loop-number l =
    IsDistinct tx_eq l.manager.courses.begun
    → AreCoursesOf (filter (λ tx. not (is_below (Some l.floor) tx))
    (filter_map (slice_get l.manager.courses.transactions) (take l.number-index l.number-items)))
    l.manager l.courses l.spent
