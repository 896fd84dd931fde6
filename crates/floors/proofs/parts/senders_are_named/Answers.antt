use Rattle.safety.proofs.World.Events.{from_ever}
use Rattle.floors.proofs.Following.{are_runs}
use Rattle.floors.proofs.parts.senders_are_named.Goals as goal

pub returns : goal.returns
returns c config floored reach = from_ever config floored.machine (are_runs config floored reach)
