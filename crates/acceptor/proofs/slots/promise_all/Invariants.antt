use Rattle.std.proofs.Common.{◌≡◌}
use Rattle.ballot.specs.Slots.{promised}
use Rattle.acceptor.proofs.Promises.{changed}
use Rattle.acceptor.proofs.slots.promise_all.Given as goal

abbrev pub invariant-loop-place : goal.invariant-loop-place
invariant-loop-place l = l.slots ≡ changed (promised l.ballot) l.initial.slots l.place
