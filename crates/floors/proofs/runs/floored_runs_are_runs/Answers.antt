use Rattle.floors.proofs.Steps.{in_machine}
use Rattle.floors.proofs.Following.{are_runs, machine_run}
use Rattle.floors.proofs.runs.floored_runs_are_runs.Goals as goal

pub returns-clause-run : goal.returns-clause-run
returns-clause-run c = machine_run

pub returns-clause-reachable : goal.returns-clause-reachable
returns-clause-reachable c = are_runs

pub returns-clause-event : goal.returns-clause-event
returns-clause-event c = in_machine
