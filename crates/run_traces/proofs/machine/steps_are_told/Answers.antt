use Rattle.run_traces.proofs.Events.{finals_told, steps_told}
use Rattle.run_traces.proofs.machine.steps_are_told.Goals as goal

pub returns-clause-entries : goal.returns-clause-entries
returns-clause-entries c config happened can = steps_told config happened can

pub returns-clause-finals : goal.returns-clause-finals
returns-clause-finals c config happened can = finals_told config happened can
