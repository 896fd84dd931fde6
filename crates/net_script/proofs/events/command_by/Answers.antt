use Rattle.net_script.proofs.Arms.{stops}
use Rattle.net_script.proofs.EventLemmas.{flow_arm}
use Rattle.net_script.proofs.events.command_by.Goals as goal

pub returns-in_err-most : goal.returns-in_err-most
returns-in_err-most c = stops flow_arm _ _ _ _ c.if-is_word.ensures c.from_residual.ensures c.in_err-most.ensures
