use Rattle.safety.proofs.World.Events.{from_ever}
use Rattle.safety.proofs.parts.senders_are_named.Goals as goal

pub returns : goal.returns
returns c = from_ever
