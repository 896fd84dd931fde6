use Rattle.std.proofs.Common.{◌≡◌, None}
use Rattle.std.specs.Prelude.{replicate}
use Rattle.cluster.proofs.notices.none_told.Given as goal

-- so many of them were told nothing
abbrev pub invariant-loop : goal.invariant-loop
invariant-loop l = l.told.items ≡ replicate l.counter (replicate l.managers None)
