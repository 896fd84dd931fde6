use Rattle.floors.proofs.Above.{above_ever, others_are_below, own_is_above}
use Rattle.floored_groups.specs.Runs.{with_net}
use Rattle.floored_groups.proofs.Single.{one_by_one}
use Rattle.floored_groups.proofs.headline.nothing_is_below.Goals as goal

pub returns-clause-branches : goal.returns-clause-branches
returns-clause-branches c config world reach r node is =
    let one = one_by_one config world reach in ((above_ever config (with_net world one.net) one.reached).nodes r node is).branches

pub returns-clause-own : goal.returns-clause-own
returns-clause-own c config world reach =
    let one = one_by_one config world reach in own_is_above config (with_net world one.net) one.reached

pub returns-clause-others : goal.returns-clause-others
returns-clause-others c config world reach =
    let one = one_by_one config world reach in others_are_below config (with_net world one.net) one.reached
