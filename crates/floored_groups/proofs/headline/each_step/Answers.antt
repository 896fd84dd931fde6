use Rattle.floored_groups.proofs.Reached.{input_step, upkeep_step}
use Rattle.floored_groups.proofs.headline.each_step.Goals as goal

pub returns-clause-input : goal.returns-clause-input
returns-clause-input c config world reach who node is before all next can is_stored tx =
    input_step config world reach tx who node is before all next can is_stored

pub returns-clause-upkeep : goal.returns-clause-upkeep
returns-clause-upkeep c config world reach event fault is tx = upkeep_step config world reach tx event fault is
