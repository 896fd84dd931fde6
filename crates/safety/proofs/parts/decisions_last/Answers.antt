use Rattle.safety.specs.Standing.{setting, Stands}
use Rattle.safety.proofs.World.Reachable.{invariant}
use Rattle.safety.proofs.Argument.Agreement.{decisions_last, one_decision}
use Rattle.safety.proofs.parts.decisions_last.Goals as goal

pub returns-clause-later : goal.returns-clause-later
returns-clause-later c config world reachable tx i b d v w decided h below =
    decisions_last (setting config) (Stands config world) (invariant config world reachable) {tx = tx} {i = i} {b = b} {d = d} {v = v}
    {w = w} decided h below

pub returns-clause-one : goal.returns-clause-one
returns-clause-one c config world reachable tx i v w first second =
    one_decision (setting config) (Stands config world) (invariant config world reachable) {tx = tx} {i = i} {v = v} {w = w} first second
