use Rattle.safety.proofs.World.Reachable.{invariant, promise_below}
use Rattle.floors.proofs.Following.{are_runs}
use Rattle.floors.proofs.parts.promises_hold.Goals as goal

pub returns-clause-promised : goal.returns-clause-promised
returns-clause-promised c config floored reach tx a i b report h =
    let world = floored.machine in
    let reachable = are_runs config floored reach in
    promise_below config world reachable a tx i b
    ((invariant config world reachable).promised {a = a} {tx = tx} {i = i} {b = b} {report = report} h)

pub returns-clause-covered : goal.returns-clause-covered
returns-clause-covered c config floored reach tx a i b d report v h k below =
    let world = floored.machine in
    let reachable = are_runs config floored reach in
    (invariant config world reachable).covers {a = a} {tx = tx} {i = i} {b = b} {d = d} {report = report} {v = v} h
    ((invariant config world reachable).told_accepted {a = a} {tx = tx} {i = i} {b = d} {v = v} k) below
