use Rattle.safety.proofs.World.Changes.{says_its_change}
use Rattle.safety.proofs.parts.changes_are_said.Goals as goal

pub returns : goal.returns
returns c = says_its_change
