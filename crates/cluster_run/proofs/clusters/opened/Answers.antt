use Rattle.std.proofs.Common.{◌≡◌, ◌+◌, map, arith}
use Rattle.std.proofs.lemmas.Result.{IfErr-weaker, IfOk-weaker}
use Rattle.stable_record.specs.Records.{mem_held}
use Rattle.cluster_run.proofs.Opened.{opened_over, unopened_for}
use Rattle.cluster_run.proofs.clusters.opened.Goals as goal

pub returns-clause-ok : goal.returns-clause-ok
returns-clause-ok c =
    let sizes = c.sizes-sizes.ensures.sizes in
    let all : c.loop-made._made ≡ c.args.config.now.acceptors + c.args.config.now.leaders + c.args.config.now.managers = omega arith in
    IfOk-weaker c.new-2.result _ _
    (λ cluster made. opened_over c.args.config.now (map mem_held c.loop-made.records.items) c.loop-made._made c.loop-made.invariant all
    cluster made) c.new-2.ensures.ok

pub returns-clause-err : goal.returns-clause-err
returns-clause-err c =
    let all : c.loop-made._made ≡ c.args.config.now.acceptors + c.args.config.now.leaders + c.args.config.now.managers = omega arith in
    IfErr-weaker c.new-2.result _ _
    (λ e unmade. unopened_for c.args.config.now (map mem_held c.loop-made.records.items) c.loop-made._made c.loop-made.invariant all
    e unmade) c.new-2.ensures.err
