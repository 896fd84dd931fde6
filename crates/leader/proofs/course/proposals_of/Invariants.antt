use Rattle.std.proofs.Common.{◌≡◌, ◌≤◌, ◌++◌, drop, length}
use Rattle.leader.specs.Courses.{proposals_of}
use Rattle.leader.proofs.course.proposals_of.Given as goal

abbrev pub invariant-loop-item : goal.invariant-loop-item
invariant-loop-item l = record {
  rest : l.proposals ++ proposals_of l.acceptors l.rows (drop l.item-index l.items) ≡ proposals_of l.acceptors l.rows l.items;
  few : length l.proposals ≤ l.item-index;
}
