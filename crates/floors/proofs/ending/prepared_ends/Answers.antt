use Rattle.floors.proofs.Prepared.{at_hand, prepared_ends}
use Rattle.floors.proofs.ending.prepared_ends.Goals as goal

pub returns-clause-at_hand : goal.returns-clause-at_hand
returns-clause-at_hand c = at_hand

pub returns-clause-ends : goal.returns-clause-ends
returns-clause-ends c = prepared_ends
