use Rattle.std.proofs.Common.{◌≡◌, ℕ, ◌<◌, false}
use Rattle.xid.specs.Transactions.{is_at, nth_branch}
use Rattle.wire.specs.Spelled.{branches_from}
use Rattle.wire.proofs.spelled_tx.SpelledTx.place_of.Given as goal

abbrev pub invariant-loop-place : goal.invariant-loop-place
invariant-loop-place l = record {
  left : l.rest ≡ branches_from l.self.branches l.place;
  none : (k : ℕ) → k < l.place → is_at l.rm (nth_branch l.self k) ≡ false;
}
