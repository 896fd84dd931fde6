use Rattle.std.proofs.Common.{◌≤◌, length}
use Rattle.node_process.specs.Gathering.{TakesPending}
use Rattle.node_process.proofs.gathering.take_pending.Given as goal

-- the first requests came into the group, one for each place
abbrev pub invariant-loop : goal.invariant-loop
invariant-loop l = record {
  takes : TakesPending l.fn.pending.items l.pending.items l.fn.items.items l.items.items;
  many : l.counter ≤ length l.items.items;
}
