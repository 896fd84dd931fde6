use Rattle.std.proofs.Common.{length}
use Rattle.node_core.specs.Opening.{AreRowsTo}
use Rattle.node_core.proofs.snapshots.take_rows.Given as goal

abbrev pub invariant-loop-entry : goal.invariant-loop-entry
invariant-loop-entry l = AreRowsTo l.bytes l.rest l.rows.items

abbrev pub decreases-loop-entry : goal.decreases-loop-entry
decreases-loop-entry l = length l.rest
