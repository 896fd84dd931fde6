use Rattle.safety.proofs.World.Reachable.{leader_memory}
use Rattle.floors.proofs.Following.{are_runs}
use Rattle.floors.proofs.parts.heard_was_sent.Goals as goal

pub returns-clause-sent : goal.returns-clause-sent
returns-clause-sent c config floored reach l node is =
    let world = floored.machine in
    let reachable = are_runs config floored reach in
    (leader_memory config world reachable l node is).heard

pub returns-clause-inside : goal.returns-clause-inside
returns-clause-inside c config floored reach l node is =
    let world = floored.machine in
    let reachable = are_runs config floored reach in
    (leader_memory config world reachable l node is).inside

pub returns-clause-once : goal.returns-clause-once
returns-clause-once c config floored reach l node is =
    let world = floored.machine in
    let reachable = are_runs config floored reach in
    (leader_memory config world reachable l node is).once
