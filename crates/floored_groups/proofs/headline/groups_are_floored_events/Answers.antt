use Rattle.floored_groups.proofs.Single.{one_by_one}
use Rattle.floored_groups.proofs.headline.groups_are_floored_events.Goals as goal

pub returns : goal.returns
returns c = one_by_one
