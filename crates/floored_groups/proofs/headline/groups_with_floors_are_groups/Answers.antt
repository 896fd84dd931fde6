use Rattle.floored_groups.proofs.Groups.{is_group}
use Rattle.floored_groups.proofs.Reached.{are_reached}
use Rattle.floored_groups.proofs.headline.groups_with_floors_are_groups.Goals as goal

pub returns-clause-reached : goal.returns-clause-reached
returns-clause-reached c = are_reached

pub returns-clause-group : goal.returns-clause-group
returns-clause-group c config world who node group is_stored =
    is_group config who (world.floor who) world.machine node group is_stored
