use Rattle.safety.proofs.WellFormed.Runs.{reached, well_reached_after}
use Rattle.safety.proofs.forms.well_formed_runs_reach.Goals as goal

pub returns-clause-reachable : goal.returns-clause-reachable
returns-clause-reachable c = reached

pub returns-clause-after : goal.returns-clause-after
returns-clause-after c = well_reached_after
