use Rattle.std.proofs.Common.{◌≡◌, ℕ, ◌<◌, length, slice_index}
use Rattle.xid.specs.Transactions.{nth_branch}
use Rattle.wire.specs.Spelled.{branches_from}
use Rattle.wire.proofs.spelled_tx.SpelledTx.managers.Given as goal

abbrev pub invariant-loop-place : goal.invariant-loop-place
invariant-loop-place l = record {
  left : l.rest ≡ branches_from l.self.branches l.place;
  long : length l.managers ≡ 16;
  taken : (k : ℕ) → k < l.place → slice_index l.managers k ≡ (nth_branch l.self k).rm;
}
