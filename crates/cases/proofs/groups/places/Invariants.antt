use Rattle.std.proofs.Common.{◌≡◌, length}
use Rattle.cases.proofs.groups.places.Given as goal

abbrev pub invariant-loop-place : goal.invariant-loop-place
invariant-loop-place l = length l.outs.items ≡ l.place
