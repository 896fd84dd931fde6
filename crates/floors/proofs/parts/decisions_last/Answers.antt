use Rattle.safety.specs.Standing.{setting, Stands}
use Rattle.safety.proofs.World.Reachable.{invariant}
use Rattle.safety.proofs.Argument.Agreement.{decisions_last, one_decision}
use Rattle.floors.proofs.Following.{are_runs}
use Rattle.floors.proofs.parts.decisions_last.Goals as goal

pub returns-clause-later : goal.returns-clause-later
returns-clause-later c config floored reach tx i b d v w decided h below =
    let world = floored.machine in
    let reachable = are_runs config floored reach in
    decisions_last (setting config) (Stands config world) (invariant config world reachable) {tx = tx} {i = i} {b = b} {d = d} {v = v}
    {w = w} decided h below

pub returns-clause-one : goal.returns-clause-one
returns-clause-one c config floored reach tx i v w first second =
    let world = floored.machine in
    let reachable = are_runs config floored reach in
    one_decision (setting config) (Stands config world) (invariant config world reachable) {tx = tx} {i = i} {v = v} {w = w} first second
