use Rattle.std.proofs.Common.{◌≡◌}
use Rattle.protocol.specs.Effects.{Config}
use Rattle.protocol.specs.Worlds.{table_at}
use Rattle.floors.specs.Worlds.{FlooredWorld}
use Rattle.cluster_run.specs.Running.{IsRunning}
use Rattle.cluster_run.specs.Traces.{each_manager}
use Rattle.cluster_run.proofs.clusters.final_rows.Given as goal

abbrev pub invariant-loop-rm : goal.invariant-loop-rm
invariant-loop-rm l =
    (config : Config) (world : FlooredWorld) → IsRunning config world l.fn.cluster
    → IsRunning config world l.cluster × (l.finals.items ≡ each_manager (table_at config world.machine) l.rm)
