use Rattle.history.proofs.HeldOnce.{held_back}
use Rattle.history.proofs.Laws as laws
use Rattle.floored_history.specs.Histories.{floored_history}
use Rattle.floored_history.proofs.Steps.{floored_run}
use Rattle.floored_history.proofs.headline.branches_look_back.Goals as goal

pub returns-clause-branches : goal.returns-clause-branches
returns-clause-branches c config world reach rm =
    laws.branches_back config world.machine (floored_history config world reach) rm (floored_run config world reach)

pub returns-clause-held_once : goal.returns-clause-held_once
returns-clause-held_once c config world reach rm =
    held_back config world.machine (floored_history config world reach) rm (floored_run config world reach)
