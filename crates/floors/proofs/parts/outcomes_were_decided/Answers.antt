use Rattle.safety.specs.Standing.{setting, Stands}
use Rattle.safety.proofs.World.Reachable.{invariant}
use Rattle.safety.proofs.Argument.Agreement.{one_outcome}
use Rattle.floors.proofs.Following.{are_runs}
use Rattle.floors.proofs.parts.outcomes_were_decided.Goals as goal

pub returns-clause-commit : goal.returns-clause-commit
returns-clause-commit c config floored reach tx r named h =
    let world = floored.machine in
    let reachable = are_runs config floored reach in
    (invariant config world reachable).all_prepared {tx = tx} h r named

pub returns-clause-abort : goal.returns-clause-abort
returns-clause-abort c config floored reach tx h =
    let world = floored.machine in
    let reachable = are_runs config floored reach in
    (invariant config world reachable).some_aborted {tx = tx} h

pub returns-clause-one : goal.returns-clause-one
returns-clause-one c config floored reach tx h k =
    let world = floored.machine in
    let reachable = are_runs config floored reach in
    one_outcome (setting config) (Stands config world) (invariant config world reachable) {tx = tx} h k

pub returns-clause-committed : goal.returns-clause-committed
returns-clause-committed c config floored reach tx r h =
    let world = floored.machine in
    let reachable = are_runs config floored reach in
    (invariant config world reachable).commit_sent {r = r} {tx = tx} h

pub returns-clause-aborted : goal.returns-clause-aborted
returns-clause-aborted c config floored reach tx r h =
    let world = floored.machine in
    let reachable = are_runs config floored reach in
    (invariant config world reachable).abort_sent {r = r} {tx = tx} h
