use Rattle.node_process.specs.Asking.{Asks}
use Rattle.node_process.proofs.saying.open_at_leader.Given as goal

-- the node was asked
abbrev pub invariant-loop-place : goal.invariant-loop-place
invariant-loop-place g l = Asks l.desk.terms.who l.fn.node l.node
