use Rattle.std.proofs.Common.{◌≡◌, drop}
use Rattle.picture.specs.Rows.{are_several}
use Rattle.picture.proofs.rows.are_several.Given as goal

abbrev pub invariant-loop-place : goal.invariant-loop-place
invariant-loop-place l = are_several l.entries ≡ are_several (drop l.place l.entries)
