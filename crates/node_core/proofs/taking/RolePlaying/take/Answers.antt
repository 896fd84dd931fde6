use Rattle.node_core.proofs.Playing.{takes_so}
use Rattle.node_core.proofs.taking.RolePlaying.take.Goals as goal

pub returns-in-Acceptor : goal.returns-in-Acceptor
returns-in-Acceptor c = takes_so _ _ _ _ _ c.in-Acceptor.is c.take.ensures

pub returns-in-Leader : goal.returns-in-Leader
returns-in-Leader c = takes_so _ _ _ _ _ c.in-Leader.is c.take-in-Leader.ensures

pub returns-in-Manager : goal.returns-in-Manager
returns-in-Manager c = takes_so _ _ _ _ _ c.in-Manager.is c.take-in-Manager.ensures
