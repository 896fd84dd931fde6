use Rattle.std.proofs.Common.{◌+◌, ◌≤◌, List, length}
use Rattle.node_process.specs.Asking.{Asks}
use Rattle.node_process.specs.Due.{DueTx}
use Rattle.node_process.specs.Gathering.{TakesThese}
use Rattle.node_process.proofs.gathering.take_due.Given as goal

-- the node was asked, and transactions were taken up, one for each place
abbrev pub invariant-loop : goal.invariant-loop
invariant-loop g l = record {
  asks : Asks l.who l.fn.node l.node;
  due : (taken : List DueTx) × TakesThese taken l.who l.now l.fn.node l.node l.fn.watches l.watches l.fn.items.items l.items.items
      × (l.counter ≤ length l.fn.items.items + length taken);
}
