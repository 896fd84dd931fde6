use Rattle.safety.specs.Standing.{setting, Stands}
use Rattle.safety.proofs.World.Reachable.{invariant}
use Rattle.safety.proofs.Argument.Agreement.{one_outcome}
use Rattle.safety.proofs.parts.outcomes_were_decided.Goals as goal

pub returns-clause-commit : goal.returns-clause-commit
returns-clause-commit c config world reachable tx r named h = (invariant config world reachable).all_prepared {tx = tx} h r named

pub returns-clause-abort : goal.returns-clause-abort
returns-clause-abort c config world reachable tx h = (invariant config world reachable).some_aborted {tx = tx} h

pub returns-clause-one : goal.returns-clause-one
returns-clause-one c config world reachable tx h k =
    one_outcome (setting config) (Stands config world) (invariant config world reachable) {tx = tx} h k

pub returns-clause-committed : goal.returns-clause-committed
returns-clause-committed c config world reachable tx r h = (invariant config world reachable).commit_sent {r = r} {tx = tx} h

pub returns-clause-aborted : goal.returns-clause-aborted
returns-clause-aborted c config world reachable tx r h = (invariant config world reachable).abort_sent {r = r} {tx = tx} h
