use Rattle.std.proofs.Common.{◌≡◌, [], map}
use Rattle.std.specs.Prelude.{replicate}
use Rattle.stable_record.specs.Records.{fresh, mem_held}
use Rattle.cluster_run.proofs.clusters.opened.Given as goal

abbrev pub invariant-loop-made : goal.invariant-loop-made
invariant-loop-made l = map mem_held l.records.items ≡ replicate l._made (fresh [])
