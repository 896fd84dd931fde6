use Rattle.safety.specs.Standing.{setting, Stands}
use Rattle.safety.proofs.World.Reachable.{invariant}
use Rattle.safety.proofs.Argument.Agreement.{prepared_was_voted}
use Rattle.floors.proofs.Following.{are_runs}
use Rattle.floors.proofs.parts.prepared_was_voted.Goals as goal

pub returns : goal.returns
returns c config floored reach tx i b h =
    let world = floored.machine in
    let reachable = are_runs config floored reach in
    prepared_was_voted (setting config) (Stands config world) (invariant config world reachable) {tx = tx} {i = i} {b = b} h
