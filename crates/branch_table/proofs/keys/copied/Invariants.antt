use Rattle.std.proofs.Common.{◌≡◌, take}
use Rattle.branch_table.proofs.keys.copied.Given as goal

abbrev pub invariant-loop-touched : goal.invariant-loop-touched
invariant-loop-touched l = l.copies.items ≡ take l.touched-index l.keys
