use Rattle.safety.proofs.Manager.Holds.{held_once, named_once, in_order}
use Rattle.floors.proofs.Following.{are_runs}
use Rattle.floors.proofs.parts.keys_held_once.Goals as goal

pub returns-clause-keys : goal.returns-clause-keys
returns-clause-keys c config floored reach = held_once config floored.machine (are_runs config floored reach)

pub returns-clause-names : goal.returns-clause-names
returns-clause-names c config floored reach = named_once config floored.machine (are_runs config floored reach)

pub returns-clause-order : goal.returns-clause-order
returns-clause-order c config floored reach = in_order config floored.machine (are_runs config floored reach)
