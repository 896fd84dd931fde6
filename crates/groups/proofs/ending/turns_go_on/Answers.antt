use Rattle.groups.proofs.Taking.{turns_reach}
use Rattle.groups.proofs.ending.turns_go_on.Goals as goal

pub returns : goal.returns
returns c config world reach turns can = turns_reach config turns world reach can
