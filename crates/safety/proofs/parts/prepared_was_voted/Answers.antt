use Rattle.safety.specs.Standing.{setting, Stands}
use Rattle.safety.proofs.World.Reachable.{invariant}
use Rattle.safety.proofs.Argument.Agreement.{prepared_was_voted}
use Rattle.safety.proofs.parts.prepared_was_voted.Goals as goal

pub returns : goal.returns
returns c config world reachable tx i b h =
    prepared_was_voted (setting config) (Stands config world) (invariant config world reachable) {tx = tx} {i = i} {b = b} h
