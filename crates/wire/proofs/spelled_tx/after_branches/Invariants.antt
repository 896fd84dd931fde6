use Rattle.std.proofs.Common.{◌≡◌, ◌-◌}
use Rattle.wire.specs.Spelled.{after_branches}
use Rattle.wire.proofs.spelled_tx.after_branches.Given as goal

abbrev pub invariant-loop : goal.invariant-loop
invariant-loop l = after_branches l.least (l.count - l.counter) l.rest ≡ after_branches 0 l.count l.bytes
