use Rattle.std.proofs.Common.{◌≡◌, ◌⊎◌, rules}
use Rattle.std.proofs.lemmas.Result.{IfErr-weaker, IfOk-weaker}
use Rattle.xid.specs.declared.refusals.Refusal.TheVariants.{NoMemory}
use Rattle.stable_record.specs.Records.{file_held}
use Rattle.cluster_run.proofs.Configs.{handed_on}
use Rattle.udp_run.specs.Runs.{RefusesNode}
use Rattle.udp_run.proofs.Taken.{file_refused, not_taken_over, taken_over}
use Rattle.udp_run.proofs.opening.open_node.Goals as goal

pub returns-in_err-device-clause-err : goal.returns-in_err-device-clause-err
returns-in_err-device-clause-err c =
    handed_on (λ e. (e ≡ NoMemory) ⊎ RefusesNode c.args.config.now c.args.who e) c.from_residual.result c.in_err-device.field-0.0
    (search rules)
    (file_refused c.args.config.now c.args.who c.in_err-device.field-0.0 c.in_err-device.ensures.err)

pub returns-clause-ok : goal.returns-clause-ok
returns-clause-ok c =
    IfOk-weaker c.take_up.result _ _
    (taken_over c.args.config.now c.args.who (file_held c.in_ok-device.device) c.in_ok-device.ensures.ok)
    c.take_up.ensures.ok

pub returns-clause-err : goal.returns-clause-err
returns-clause-err c =
    IfErr-weaker c.take_up.result _ _
    (not_taken_over c.args.config.now c.args.who (file_held c.in_ok-device.device) c.in_ok-device.ensures.ok c.requires)
    c.take_up.ensures.err
