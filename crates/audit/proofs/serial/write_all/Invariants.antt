use Rattle.std.proofs.Common.{◌≡◌, ℕ, take}
use Rattle.std.specs.Prelude.{if◌then◌else◌}
use Rattle.std.specs.List.{list_any}
use Rattle.xid.specs.Transactions.{is_at}
use Rattle.protocol.specs.Tables.{with_writes}
use Rattle.audit.specs.Books.{rows_of, stretch_of}
use Rattle.audit.specs.Stretches.{writes_at}
use Rattle.audit.proofs.serial.write_all.Given as goal

abbrev pub invariant-loop-place : goal.invariant-loop-place
invariant-loop-place l = (rm : ℕ) → rows_of l.tables rm
    ≡ (if list_any (is_at rm) (take l.place l.tx.branches)
    then with_writes (rows_of l.initial.tables rm) (writes_at (stretch_of l.branches) rm l.tx)
    else rows_of l.initial.tables rm)
