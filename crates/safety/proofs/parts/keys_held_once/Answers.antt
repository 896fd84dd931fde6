use Rattle.safety.proofs.Manager.Holds.{held_once, named_once, in_order}
use Rattle.safety.proofs.parts.keys_held_once.Goals as goal

pub returns-clause-keys : goal.returns-clause-keys
returns-clause-keys c = held_once

pub returns-clause-names : goal.returns-clause-names
returns-clause-names c = named_once

pub returns-clause-order : goal.returns-clause-order
returns-clause-order c = in_order
