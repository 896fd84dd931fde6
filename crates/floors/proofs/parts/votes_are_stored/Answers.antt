use Rattle.safety.proofs.World.Reachable.{invariant}
use Rattle.floors.proofs.Following.{are_runs}
use Rattle.floors.proofs.parts.votes_are_stored.Goals as goal

pub returns-clause-first : goal.returns-clause-first
returns-clause-first c config floored reach tx i v h =
    let world = floored.machine in
    let reachable = are_runs config floored reach in
    (invariant config world reachable).first_is_vote {tx = tx} {i = i} {v = v} h

pub returns-clause-once : goal.returns-clause-once
returns-clause-once c config floored reach tx r v w h k =
    let world = floored.machine in
    let reachable = are_runs config floored reach in
    (invariant config world reachable).vote_once {r = r} {tx = tx} {v = v}
    {w = w} h k

pub returns-clause-named : goal.returns-clause-named
returns-clause-named c config floored reach tx r v h =
    let world = floored.machine in
    let reachable = are_runs config floored reach in
    (invariant config world reachable).voter_named {r = r} {tx = tx} {v = v} h
