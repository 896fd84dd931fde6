use Rattle.std.proofs.Common.{◌≡◌, drop}
use Rattle.std.specs.List.{find}
use Rattle.xid.specs.Transactions.{is_at}
use Rattle.xid.proofs.transaction.Tx.branch.Given as goal

abbrev pub invariant-loop-branch : goal.invariant-loop-branch
invariant-loop-branch l = find (is_at l.rm) l.self-inside.branches ≡ find (is_at l.rm) (drop l.branch-index l.self-inside.branches)
