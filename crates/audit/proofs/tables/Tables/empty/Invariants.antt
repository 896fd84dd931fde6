use Rattle.std.proofs.Common.{◌≡◌, [], replicate}
use Rattle.audit.proofs.tables.Tables.empty.Given as goal

abbrev pub invariant-loop-rm : goal.invariant-loop-rm
invariant-loop-rm l = l.rows.items ≡ replicate l._rm []
