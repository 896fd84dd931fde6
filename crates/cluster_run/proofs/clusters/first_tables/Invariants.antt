use Rattle.std.proofs.Common.{◌≡◌}
use Rattle.cluster_run.specs.Traces.{each_manager, first_rows_of}
use Rattle.cluster_run.proofs.clusters.first_tables.Given as goal

abbrev pub invariant-loop-rm : goal.invariant-loop-rm
invariant-loop-rm l = l.first.items ≡ each_manager (first_rows_of l.tables) l.rm
