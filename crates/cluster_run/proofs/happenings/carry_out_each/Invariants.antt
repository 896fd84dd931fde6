use Rattle.cluster_run.specs.Happenings.{AreDoneBy}
use Rattle.cluster_run.specs.Running.{GoesOn, so_far}
use Rattle.cluster_run.proofs.happenings.carry_out_each.Given as goal

abbrev pub invariant-loop-command : goal.invariant-loop-command
invariant-loop-command g l =
    GoesOn (λ config world. AreDoneBy config world l.yielded) l.fn.cluster l.cluster
    (so_far l.fn.piece.items (g.W.Write.contents l.fn.out)) (so_far l.piece.items (g.W.Write.contents l.out))
