use Rattle.std.proofs.Common.{◌≡◌, ◌≤◌, ◌<◌, ℕ, List, Option, subst, arith, rules}
use Rattle.cluster_run.specs.Happenings.{IsFlow}
use Rattle.cluster_run.specs.Running.{StopsIn, so_far}
use Rattle.cluster_run.proofs.Configs.{handed_on}
use Rattle.cluster_run.proofs.Stepping.{HasFlown, flow_all, flow_short, flow_stops, flown_more, flown_none}
use Rattle.cluster_run.proofs.happenings.flow.Goals as goal

pub loop-made-init : goal.loop-made-init
loop-made-init g c = λ config world running.
    flown_none config world c.args.cluster.now (so_far c.args.piece.now.items (g.W.Write.contents c.args.out.now)) running

pub returns-in_default-clause-ok : goal.returns-in_default-clause-ok
returns-in_default-clause-ok g c =
    let few : c.loop-made._made ≤ c.args.count = omega arith in
    λ config world running.
    flow_stops config world c.args.count c.loop-made._made c.loop-made.cluster
    (so_far c.args.piece.now.items (g.W.Write.contents c.args.out.now))
    (so_far c.loop-made.piece.items (g.W.Write.contents c.loop-made.out))
    few (c.loop-made.invariant config world running) c.in_default.ensures

pub returns-in_err-happen-clause-err : goal.returns-in_err-happen-clause-err
returns-in_err-happen-clause-err g c =
    let few : c.loop-made._made < c.args.count = omega arith in
    let first = so_far c.args.piece.now.items (g.W.Write.contents c.args.out.now) in
    let before = so_far c.loop-made.piece.items (g.W.Write.contents c.loop-made.out) in
    let new : Option (List ℕ) = g.W.Write.contents c.happen.new.out in
    let stopped = c.in_err-happen.ensures.err in
    handed_on (StopsIn (λ config world. IsFlow config world c.args.count) c.args.cluster.now first new) c.from_residual.result
    c.in_err-happen.field-0.0 (search rules) (
      stopped.0,
      λ config world running.
          flow_short config world c.args.count c.loop-made._made c.in-Some.number c.loop-made.cluster first before new few
          (c.loop-made.invariant config world running) c.in-Some.ensures stopped.1,
    )

pub loop-made-preserved : goal.loop-made-preserved
loop-made-preserved g c = λ config world running.
    flown_more config world c.loop-made._made c.in-Some.number c.loop-made.cluster c.happen.new.cluster
    (so_far c.args.piece.now.items (g.W.Write.contents c.args.out.now))
    (so_far c.loop-made.piece.items (g.W.Write.contents c.loop-made.out))
    (so_far c.happen.new.piece.items (g.W.Write.contents c.happen.new.out)) (c.loop-made.invariant config world running) c.in-Some.ensures
    c.in_ok-happen.ensures.ok

pub returns-clause-ok : goal.returns-clause-ok
returns-clause-ok g c =
    let same : c.loop-made._made ≡ c.args.count = omega arith in
    let first = so_far c.args.piece.now.items (g.W.Write.contents c.args.out.now) in
    let before = so_far c.loop-made.piece.items (g.W.Write.contents c.loop-made.out) in
    λ config world running.
    flow_all config world c.args.count c.loop-made.cluster first before
    (subst (λ (n : ℕ). HasFlown config world n c.loop-made.cluster first before) same (c.loop-made.invariant config world running))
