use Rattle.std.proofs.Common.{Some}
use Rattle.safety.proofs.World.Reachable.{invariant, held_accept, accept_covered}
use Rattle.floors.proofs.Following.{are_runs}
use Rattle.floors.proofs.parts.accepted_was_sent.Goals as goal

pub returns-clause-stored : goal.returns-clause-stored
returns-clause-stored c config floored reach tx a i b v h =
    let world = floored.machine in
    let reachable = are_runs config floored reach in
    (invariant config world reachable).accept_sent {a = a} {tx = tx} {i = i}
    {b = b} {v = v} h

pub returns-clause-held : goal.returns-clause-held
returns-clause-held c config floored reach tx a i b v e =
    let world = floored.machine in
    let reachable = are_runs config floored reach in
    (invariant config world reachable).accept_sent {a = a} {tx = tx} {i = i} {b = b} {v = v}
    (held_accept config world reachable a tx i b v e)

pub returns-clause-reported : goal.returns-clause-reported
returns-clause-reported c config floored reach tx a i b d v h =
    let world = floored.machine in
    let reachable = are_runs config floored reach in
    let is = (invariant config world reachable).reported {a = a} {tx = tx} {i = i} {b = b} {report = Some (d, v)} h in
    (is.0, (invariant config world reachable).accept_sent {a = a} {tx = tx} {i = i} {b = d} {v = v} is.1)

pub returns-clause-told : goal.returns-clause-told
returns-clause-told c config floored reach tx a i b v h =
    let world = floored.machine in
    let reachable = are_runs config floored reach in
    (invariant config world reachable).accept_sent {a = a} {tx = tx} {i = i} {b = b} {v = v}
    ((invariant config world reachable).told_accepted {a = a} {tx = tx} {i = i} {b = b} {v = v} h)

pub returns-clause-at_most : goal.returns-clause-at_most
returns-clause-at_most c config floored reach tx a i b v h =
    let world = floored.machine in
    let reachable = are_runs config floored reach in
    accept_covered config world reachable a tx i b v
    ((invariant config world reachable).told_accepted {a = a} {tx = tx} {i = i} {b = b} {v = v} h)
