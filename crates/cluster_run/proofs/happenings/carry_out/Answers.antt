use Rattle.std.proofs.Common.{List, ℕ, Option, subst, sym}
use Rattle.std.specs.Prelude.{IfErr}
use Rattle.net_script.specs.declared.values.Command.{Command}
use Rattle.cluster_run.specs.Happenings.{IsDoneBy}
use Rattle.cluster_run.specs.Running.{StopsIn, so_far}
use Rattle.cluster_run.proofs.happenings.carry_out.Goals as goal

pub returns-in-Do-clause-err : goal.returns-in-Do-clause-err
returns-in-Do-clause-err g c =
    let first = so_far c.args.piece.now.items (g.W.Write.contents c.args.out.now) in
    let new : Option (List ℕ) = g.W.Write.contents c.happen.new.out in
    subst
    (λ (command : Command). IfErr c.happen.result (StopsIn (λ config world. IsDoneBy config world command) c.args.cluster.now first new))
    (sym c.in-Do.is) c.happen.ensures.err
