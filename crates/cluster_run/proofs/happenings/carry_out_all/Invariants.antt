use Rattle.std.specs.List.{flat_map}
use Rattle.cluster_run.specs.Happenings.{AreDoneBy}
use Rattle.cluster_run.specs.Running.{GoesOn, so_far}
use Rattle.cluster_run.proofs.happenings.carry_out_all.Given as goal

abbrev pub invariant-loop-batch : goal.invariant-loop-batch
invariant-loop-batch g l =
    GoesOn (λ config world. AreDoneBy config world (flat_map (λ batch. batch) l.yielded)) l.fn.cluster l.cluster
    (so_far l.fn.piece.items (g.W.Write.contents l.fn.out)) (so_far l.piece.items (g.W.Write.contents l.out))
