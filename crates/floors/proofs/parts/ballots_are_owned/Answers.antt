use Rattle.ballot.specs.Ballots.{owner_of}
use Rattle.safety.specs.Vocabulary.{L}
use Rattle.safety.specs.Standing.{setting, Stands, facts_at}
use Rattle.safety.proofs.Argument.Agreement.{one_proposal}
use Rattle.safety.proofs.World.Reachable.{invariant}
use Rattle.safety.proofs.Facts.{begun_below}
use Rattle.floors.proofs.Following.{are_runs}
use Rattle.floors.proofs.parts.ballots_are_owned.Goals as goal

pub returns-clause-begun : goal.returns-clause-begun
returns-clause-begun c config floored reach tx i b v h above =
    let world = floored.machine in
    let reachable = are_runs config floored reach in
    (invariant config world reachable).owned {tx = tx} {i = i} {b = b}
    {v = v} h above

pub returns-clause-at_most : goal.returns-clause-at_most
returns-clause-at_most c config floored reach tx i b v h above =
    let world = floored.machine in
    let reachable = are_runs config floored reach in
    begun_below (facts_at config world (L (owner_of config.leaders b))) tx b
    ((invariant config world reachable).owned {tx = tx} {i = i} {b = b} {v = v} h above)

pub returns-clause-one_value : goal.returns-clause-one_value
returns-clause-one_value c config floored reach tx i b v w h k =
    let world = floored.machine in
    let reachable = are_runs config floored reach in
    one_proposal (setting config) (Stands config world) (invariant config world reachable) tx i b {v = v} {w = w} h k

pub returns-clause-picked : goal.returns-clause-picked
returns-clause-picked c config floored reach tx i b v h above =
    let world = floored.machine in
    let reachable = are_runs config floored reach in
    (invariant config world reachable).picked {tx = tx} {i = i} {b = b}
    {v = v} h above
