use Rattle.safety.proofs.World.Events.{run_to, reachable_after}
use Rattle.safety.proofs.laws.runs_reach.Goals as goal

pub returns-clause-run : goal.returns-clause-run
returns-clause-run c = run_to

pub returns-clause-after : goal.returns-clause-after
returns-clause-after c = reachable_after
