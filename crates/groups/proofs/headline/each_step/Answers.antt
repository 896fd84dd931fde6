use Rattle.groups.proofs.Reached.{input_step, upkeep_step}
use Rattle.groups.proofs.headline.each_step.Goals as goal

pub returns-clause-input : goal.returns-clause-input
returns-clause-input c config world reach who node is before all next can is_stored tx =
    input_step config world reach who node is before all next can is_stored tx

pub returns-clause-upkeep : goal.returns-clause-upkeep
returns-clause-upkeep c = upkeep_step
