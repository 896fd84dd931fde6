use Rattle.std.proofs.Common.{◌≤◌, length}
use Rattle.stable_record.proofs.file.write_some.Given as goal

abbrev pub invariant-loop : goal.invariant-loop
invariant-loop l = l.kept ≤ length l.bytes
