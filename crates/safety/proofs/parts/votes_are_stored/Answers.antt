use Rattle.safety.proofs.World.Reachable.{invariant}
use Rattle.safety.proofs.parts.votes_are_stored.Goals as goal

pub returns-clause-first : goal.returns-clause-first
returns-clause-first c config world reachable tx i v h = (invariant config world reachable).first_is_vote {tx = tx} {i = i} {v = v} h

pub returns-clause-once : goal.returns-clause-once
returns-clause-once c config world reachable tx r v w h k = (invariant config world reachable).vote_once {r = r} {tx = tx} {v = v}
    {w = w} h k

pub returns-clause-named : goal.returns-clause-named
returns-clause-named c config world reachable tx r v h = (invariant config world reachable).voter_named {r = r} {tx = tx} {v = v} h
