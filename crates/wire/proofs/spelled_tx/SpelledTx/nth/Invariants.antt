use Rattle.std.proofs.Common.{◌≡◌, ◌+◌}
use Rattle.xid.specs.Transactions.{nth_branch}
use Rattle.wire.specs.Spelled.{branches_from}
use Rattle.wire.proofs.spelled_tx.SpelledTx.nth.Given as goal

abbrev pub invariant-loop-place : goal.invariant-loop-place
invariant-loop-place l = record {
  rm : l.branch.0 ≡ (nth_branch l.self l.place).rm;
  bqual : l.branch.1.now ≡ (nth_branch l.self l.place).bqual;
  rest : l.branch.2.now ≡ branches_from l.self.branches (l.place + 1);
}
