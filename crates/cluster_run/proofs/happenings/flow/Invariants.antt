use Rattle.protocol.specs.Effects.{Config}
use Rattle.floors.specs.Worlds.{FlooredWorld}
use Rattle.cluster_run.specs.Running.{IsRunning, so_far}
use Rattle.cluster_run.proofs.Stepping.{HasFlown}
use Rattle.cluster_run.proofs.happenings.flow.Given as goal

abbrev pub invariant-loop-made : goal.invariant-loop-made
invariant-loop-made g l =
    (config : Config) (world : FlooredWorld) → IsRunning config world l.fn.cluster
    → HasFlown config world l._made l.cluster (so_far l.fn.piece.items (g.W.Write.contents l.fn.out))
    (so_far l.piece.items (g.W.Write.contents l.out))
