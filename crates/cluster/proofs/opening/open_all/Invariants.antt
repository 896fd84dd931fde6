use Rattle.std.proofs.Common.{map}
use Rattle.cluster.specs.Opening.{AreBegun}
use Rattle.cluster.proofs.opening.open_all.Given as goal

-- a node was opened over each record so far
abbrev pub invariant-loop-device : goal.invariant-loop-device
invariant-loop-device g l = AreBegun l.config (map g.R.Record.held l.yielded) l.nodes.items
