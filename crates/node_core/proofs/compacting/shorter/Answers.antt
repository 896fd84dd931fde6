use Rattle.node_core.proofs.Shortening.{shortens_so, acceptor_framed, leader_framed, manager_framed}
use Rattle.node_core.proofs.compacting.shorter.Goals as goal

pub returns-in-Acceptor-clause-ok : goal.returns-in-Acceptor-clause-ok
returns-in-Acceptor-clause-ok c =
    shortens_so _ _ c.shorter.result c.in-Acceptor.is
    (acceptor_framed c.in-Acceptor.acceptor c.shorter.result c.shorter.ensures.ok)

pub returns-in-Leader-clause-ok : goal.returns-in-Leader-clause-ok
returns-in-Leader-clause-ok c =
    shortens_so _ _ c.shorter-in-Leader.result c.in-Leader.is
    (leader_framed c.in-Leader.leader c.shorter-in-Leader.result c.shorter-in-Leader.ensures.ok)

pub returns-in-Manager-clause-ok : goal.returns-in-Manager-clause-ok
returns-in-Manager-clause-ok c =
    shortens_so _ _ c.shorter-in-Manager.result c.in-Manager.is
    (manager_framed c.in-Manager.manager c.shorter-in-Manager.result c.shorter-in-Manager.ensures.ok)
