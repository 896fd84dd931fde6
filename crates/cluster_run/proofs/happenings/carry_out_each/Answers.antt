use Rattle.std.proofs.Common.{◌≡◌, ◌∙◌, ℕ, ◌+◌, List, [], ◌∷◌, ◌++◌, length, drop, Option, rules, subst}
use Rattle.std.proofs.lemmas.Iterator.Adapters.{YieldsList-from_vec}
use Rattle.std.proofs.lemmas.Iterator.Consumers.{YieldsList-so_far, YieldsList-turn}
use Rattle.net_script.specs.declared.values.Command.{Command}
use Rattle.cluster_run.specs.Happenings.{AreDoneBy}
use Rattle.cluster_run.specs.Running.{FallsShort, StopsIn, so_far}
use Rattle.cluster_run.proofs.Completing.{gone_through}
use Rattle.cluster_run.proofs.Configs.{handed_on}
use Rattle.cluster_run.proofs.Stepping.{commands_more, commands_short}
use Rattle.cluster_run.proofs.happenings.carry_out_each.Goals as goal

pub loop-command-preserved : goal.loop-command-preserved
loop-command-preserved g c =
    commands_more c.loop-command.yielded c.in-Some.command c.args.cluster.now c.loop-command.cluster c.carry_out.new.cluster
    (so_far c.args.piece.now.items (g.W.Write.contents c.args.out.now))
    (so_far c.loop-command.piece.items (g.W.Write.contents c.loop-command.out))
    (so_far c.carry_out.new.piece.items (g.W.Write.contents c.carry_out.new.out)) c.loop-command.invariant c.in_ok-carry_out.ensures.ok

pub returns-in_err-carry_out-clause-err : goal.returns-in_err-carry_out-clause-err
returns-in_err-carry_out-clause-err g c =
    let all = c.args.commands.items in
    let yielded = c.loop-command.yielded in
    let command = c.in-Some.command in
    let first = so_far c.args.piece.now.items (g.W.Write.contents c.args.out.now) in
    let before = so_far c.loop-command.piece.items (g.W.Write.contents c.loop-command.out) in
    let new : Option (List ℕ) = g.W.Write.contents c.carry_out.new.out in
    let given =
    YieldsList-from_vec {s = c.into_iter-command-iterator.result} all c.into_iter-command-iterator.ensures.into_iter_gives.0
    (c.into_iter-command-iterator.ensures.into_iter_gives.1 ∙ c.args.commands.ok.0) in
    let turn =
    YieldsList-turn given yielded c.loop-command.command-iterator c.loop-command.yielded_by c.next.result c.next.new.self command
    c.in-Some.is c.next.ensures.steps in
    let others = drop (length yielded + 1) all in
    let are : (yielded ++ command ∷ []) ++ others ≡ all =
    gone_through all yielded command
    (YieldsList-so_far given yielded c.loop-command.command-iterator c.loop-command.yielded_by) turn in
    let stopped = c.in_err-carry_out.ensures.err in
    handed_on (StopsIn (λ config world. AreDoneBy config world all) c.args.cluster.now first new) c.from_residual.result
    c.in_err-carry_out.field-0.0 (search rules) (
      stopped.0,
      subst (λ (commands : List Command). FallsShort (λ config world. AreDoneBy config world commands) c.args.cluster.now first new) are
          (commands_short yielded command others c.args.cluster.now c.loop-command.cluster first before new c.loop-command.invariant
          stopped.1),
    )
