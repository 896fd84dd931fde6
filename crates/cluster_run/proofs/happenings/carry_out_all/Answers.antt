use Rattle.std.proofs.Common.{◌≡◌, ◌∙◌, ℕ, ◌+◌, List, [], ◌∷◌, ◌++◌, length, drop, Option, ap, inl, rules, subst}
use Rattle.std.specs.List.{flat_map}
use Rattle.std.proofs.lemmas.Iterator.Adapters.{YieldsList-from_vec}
use Rattle.std.proofs.lemmas.Iterator.Consumers.{YieldsList-so_far, YieldsList-turn}
use Rattle.net_script.specs.declared.values.Command.{Command}
use Rattle.cluster_run.specs.Happenings.{AreDoneBy}
use Rattle.cluster_run.specs.Running.{FallsShort, GoesOn, StopsIn, so_far}
use Rattle.cluster_run.proofs.Completing.{gone_through}
use Rattle.cluster_run.proofs.Configs.{handed_on}
use Rattle.cluster_run.proofs.Stepping.{all_short, batch_more, batch_short}
use Rattle.cluster_run.proofs.happenings.carry_out_all.Goals as goal

pub returns-in_err-batch-items-clause-err : goal.returns-in_err-batch-items-clause-err
returns-in_err-batch-items-clause-err g c =
    let out : Option (List ℕ) = g.W.Write.contents c.args.out.now in
    handed_on (StopsIn (λ config world. AreDoneBy config world c.args.commands) c.args.cluster.now (so_far c.args.piece.now.items out) out)
    c.from_residual.result c.in_err-batch-items.field-0.0 (search rules)
    (inl c.in_err-batch-items.ensures.err, all_short c.args.commands c.args.cluster.now c.args.piece.now.items out)

pub loop-batch-preserved : goal.loop-batch-preserved
loop-batch-preserved g c =
    let before = so_far c.loop-batch.piece.items (g.W.Write.contents c.loop-batch.out) in
    let after = so_far c.carry_out_each.new.piece.items (g.W.Write.contents c.carry_out_each.new.out) in
    batch_more c.loop-batch.yielded c.in-Some.batch c.args.cluster.now c.loop-batch.cluster c.carry_out_each.new.cluster
    (so_far c.args.piece.now.items (g.W.Write.contents c.args.out.now)) before after c.loop-batch.invariant
    (subst
    (λ (commands : List Command). GoesOn (λ config world. AreDoneBy config world commands) c.loop-batch.cluster
    c.carry_out_each.new.cluster before after) c.into_vec.ensures c.in_ok-carry_out_each.ensures.ok)

pub returns-in_err-carry_out_each-clause-err : goal.returns-in_err-carry_out_each-clause-err
returns-in_err-carry_out_each-clause-err g c =
    let all = c.in_ok-batch-items.batch-items.items in
    let yielded = c.loop-batch.yielded in
    let batch = c.in-Some.batch in
    let first = so_far c.args.piece.now.items (g.W.Write.contents c.args.out.now) in
    let before = so_far c.loop-batch.piece.items (g.W.Write.contents c.loop-batch.out) in
    let new : Option (List ℕ) = g.W.Write.contents c.carry_out_each.new.out in
    let given =
    YieldsList-from_vec {s = c.into_iter-batch-iterator.result} all c.into_iter-batch-iterator.ensures.into_iter_gives.0
    (c.into_iter-batch-iterator.ensures.into_iter_gives.1 ∙ c.in_ok-batch-items.batch-items.ok.0) in
    let turn =
    YieldsList-turn given yielded c.loop-batch.batch-iterator c.loop-batch.yielded_by c.next.result c.next.new.self batch c.in-Some.is
    c.next.ensures.steps in
    let others = drop (length yielded + 1) all in
    let are : (yielded ++ batch ∷ []) ++ others ≡ all =
    gone_through all yielded batch (YieldsList-so_far given yielded c.loop-batch.batch-iterator c.loop-batch.yielded_by) turn in
    let stopped = c.in_err-carry_out_each.ensures.err in
    handed_on (StopsIn (λ config world. AreDoneBy config world c.args.commands) c.args.cluster.now first new)
    c.from_residual-in_err-carry_out_each.result c.in_err-carry_out_each.field-0.0 (search rules) (
      stopped.0,
      subst (λ (commands : List Command). FallsShort (λ config world. AreDoneBy config world commands) c.args.cluster.now first new)
          (ap (flat_map (λ one. one)) are ∙ c.in_ok-batch-items.ensures.ok)
          (batch_short yielded batch others c.args.cluster.now c.loop-batch.cluster first before new c.loop-batch.invariant
          (subst (λ (commands : List Command). FallsShort (λ config world. AreDoneBy config world commands) c.loop-batch.cluster before new)
          c.into_vec.ensures stopped.1)),
    )
