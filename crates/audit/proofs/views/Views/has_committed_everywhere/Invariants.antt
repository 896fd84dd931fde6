use Rattle.std.proofs.Common.{◌≡◌, true, take}
use Rattle.std.specs.List.{list_all}
use Rattle.xid.specs.Transactions.{participants}
use Rattle.audit.specs.Books.{has_committed}
use Rattle.audit.proofs.views.Views.has_committed_everywhere.Given as goal

abbrev pub invariant-loop-place : goal.invariant-loop-place
invariant-loop-place l = list_all (λ rm. has_committed l.self rm l.tx) (take l.place (participants l.tx)) ≡ true
