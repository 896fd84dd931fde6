use Rattle.safety.proofs.World.Reachable.{leader_memory}
use Rattle.safety.proofs.parts.heard_was_sent.Goals as goal

pub returns-clause-sent : goal.returns-clause-sent
returns-clause-sent c config world reachable l node is = (leader_memory config world reachable l node is).heard

pub returns-clause-inside : goal.returns-clause-inside
returns-clause-inside c config world reachable l node is = (leader_memory config world reachable l node is).inside

pub returns-clause-once : goal.returns-clause-once
returns-clause-once c config world reachable l node is = (leader_memory config world reachable l node is).once
