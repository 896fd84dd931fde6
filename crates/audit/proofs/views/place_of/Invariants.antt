use Rattle.std.proofs.Common.{◌≡◌, ℕ, ◌<◌, false}
use Rattle.xid.specs.Transactions.{is_at, nth_branch}
use Rattle.audit.proofs.views.place_of.Given as goal

abbrev pub invariant-loop-place : goal.invariant-loop-place
invariant-loop-place l = (k : ℕ) → k < l.place → is_at l.rm (nth_branch l.tx k) ≡ false
