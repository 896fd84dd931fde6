use Rattle.std.proofs.Common.{◌≤◌, length}
use Rattle.stable_record.proofs.file.holds.Given as goal

abbrev pub invariant-loop : goal.invariant-loop
invariant-loop l = length l.rest ≤ length l.bytes
