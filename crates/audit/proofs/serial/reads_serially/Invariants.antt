use Rattle.std.proofs.Common.{◌≡◌, true, take}
use Rattle.std.specs.List.{list_all}
use Rattle.xid.specs.Transactions.{participants}
use Rattle.audit.specs.Books.{rows_of, stretch_of}
use Rattle.audit.specs.Consistent.{are_shown}
use Rattle.audit.specs.Stretches.{branch_at, gets_in}
use Rattle.audit.proofs.serial.reads_serially.Given as goal

abbrev pub invariant-loop-place : goal.invariant-loop-place
invariant-loop-place l =
    list_all (λ rm. are_shown (rows_of l.tables rm) (gets_in (branch_at (stretch_of l.branches) rm l.tx)))
    (take l.place (participants l.tx))
    ≡ true
