use Rattle.std.proofs.Common.{◌<◌, arith, rules}
use Rattle.protocol.specs.Worlds.{table_at}
use Rattle.cluster_run.proofs.Configs.{matched}
use Rattle.cluster_run.proofs.Opened.{shown, still_running, unshown}
use Rattle.cluster_run.proofs.Traces.{one_more}
use Rattle.cluster_run.proofs.clusters.final_rows.Goals as goal

pub returns-in_err-table : goal.returns-in_err-table
returns-in_err-table c = λ config world running count.
    let so = c.loop-rm.invariant config world running in
    let within : c.loop-rm.rm < config.managers = omega (arith, count) in
    matched _ _ c.from_residual.result c.in_err-table.field-0.0 (search rules)
    (unshown config world c.loop-rm.cluster c.table.new.self c.loop-rm.rm so.0 c.table.result (c.table.ensures config world so.0.stands)
    within c.in_err-table.field-0.0 c.in_err-table.was)

pub loop-rm-preserved : goal.loop-rm-preserved
loop-rm-preserved c = λ config world running.
    let so = c.loop-rm.invariant config world running in
    let is = c.table.ensures config world so.0.stands in (
      still_running config world c.loop-rm.cluster c.table.new.self c.loop-rm.rm so.0 c.table.result is,
      one_more (table_at config world.machine) c.loop-rm.rm c.loop-rm.finals.items c.push.new.self.items c.in_ok-table.field-0 so.1
          (shown config world c.loop-rm.cluster c.table.new.self c.loop-rm.rm so.0 c.table.result is c.in_ok-table.field-0
          c.in_ok-table.was)
          c.in_ok-push.ensures.items,
    )
