use Rattle.std.proofs.Common.{◌≡◌, take}
use Rattle.protocol.specs.Tables.{with_writes}
use Rattle.audit.proofs.rows.Rows.write_all.Given as goal

abbrev pub invariant-loop-touched : goal.invariant-loop-touched
invariant-loop-touched l = l.self ≡ with_writes l.initial.self (take l.touched-index l.writes)
