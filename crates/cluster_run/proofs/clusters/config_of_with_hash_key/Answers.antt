use Rattle.std.proofs.Common.{◌∙◌, inr, rules}
use Rattle.cluster_run.specs.Runs.{RefusesSizes}
use Rattle.cluster_run.proofs.Configs.{handed_on, outside_limits}
use Rattle.cluster_run.proofs.clusters.config_of_with_hash_key.Goals as goal

pub returns-in_err-config-clause-err : goal.returns-in_err-config-clause-err
returns-in_err-config-clause-err c =
    handed_on (RefusesSizes c.args.sizes) c.from_residual-in_err-config.result c.in_err-config.field-0.0 (search rules)
    (inr (
      c.in_err-config.ensures.err.0,
      outside_limits c.args.sizes c.args.tables.now c.in_ok-acceptors.acceptors c.in_ok-leaders.leaders c.in_ok-managers.managers
          c.new.result c.in_ok-acceptors.ensures.ok c.in_ok-leaders.ensures.ok c.in_ok-managers.ensures.ok
          (c.new.ensures ∙ c.in_ok-first.ensures.ok) c.requires c.in_err-config.ensures.err.1,
    ))
