use Rattle.std.proofs.Common.{◌≡◌, ◌≤◌}
use Rattle.ballot.specs.Majority.{has, count}
use Rattle.ballot.proofs.quorum.Quorum.majority.Given as goal

abbrev pub invariant-loop-acceptor : goal.invariant-loop-acceptor
invariant-loop-acceptor l = record {
  counted : l.members ≡ count l.acceptor (has l.self-inside.members);
  few : l.members ≤ l.acceptor;
}
