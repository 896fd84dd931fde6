use Rattle.std.proofs.Common.{◌≡◌, ◌⊎◌, rules}
use Rattle.xid.specs.declared.refusals.Refusal.TheVariants.{NoMemory}
use Rattle.cluster_run.proofs.Configs.{handed_on}
use Rattle.udp_run.specs.Runs.{RefusesDevices}
use Rattle.udp_run.proofs.Ran.{refused_first, refused_last}
use Rattle.udp_run.proofs.runs.serve.Goals as goal

pub returns-in_err-site-clause-err : goal.returns-in_err-site-clause-err
returns-in_err-site-clause-err c =
    handed_on (λ e. (e ≡ NoMemory) ⊎ RefusesDevices c.args.config.now c.args.commands.items e) c.from_residual.result
    c.in_err-site.field-0.0 (search rules)
    (refused_first c.args.config.now c.args.commands.items c.in_err-site.field-0.0 c.in_err-site.ensures.err)

pub returns-in_err-finals-clause-err : goal.returns-in_err-finals-clause-err
returns-in_err-finals-clause-err c =
    handed_on (λ e. (e ≡ NoMemory) ⊎ RefusesDevices c.args.config.now c.args.commands.items e) c.from_residual-in_err-finals.result
    c.in_err-finals.field-0.0 (search rules)
    (refused_last c.args.config.now c.args.commands.items c.in_ok-site.site c.carry_out_all.new.self c.in_ok-entries.entries.items
    c.in_ok-site.ensures.ok c.in_ok-entries.ensures.ok c.in_err-finals.field-0.0 c.in_err-finals.ensures.err)
