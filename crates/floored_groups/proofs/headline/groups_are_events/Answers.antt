use Rattle.floored_groups.proofs.Reached.{are_machines}
use Rattle.floored_groups.proofs.headline.groups_are_events.Goals as goal

pub returns : goal.returns
returns c = are_machines
