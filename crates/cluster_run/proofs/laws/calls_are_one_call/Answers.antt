use Rattle.cluster_run.proofs.MachineCalls.{call_is, answered_is}
use Rattle.floors.proofs.Following.{are_runs}
use Rattle.safety.proofs.Manager.Holds.{named_once, in_order}
use Rattle.cluster_run.proofs.laws.calls_are_one_call.Goals as goal

pub returns-clause-left : goal.returns-clause-left
returns-clause-left c config world reachable rm node is first x action =
    call_is rm node.facts node.memory.branches (in_order config world.machine (are_runs config world reachable) rm node is) x action first

pub returns-clause-answered : goal.returns-clause-answered
returns-clause-answered c config world reachable rm node is first x action =
    answered_is rm first node.facts node.memory.branches (named_once config world.machine (are_runs config world reachable) rm node is) x
    action
