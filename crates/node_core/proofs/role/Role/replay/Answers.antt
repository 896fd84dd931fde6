use Rattle.node_core.proofs.Playing.{acceptor_replays, leader_replays, manager_replays, replays_so}
use Rattle.node_core.proofs.role.Role.replay.Goals as goal

pub returns-in-Acceptor : goal.returns-in-Acceptor
returns-in-Acceptor c =
    replays_so _ _ _ _ _ c.in-Acceptor.is
    (acceptor_replays c.in-Acceptor.acceptor c.play.new.self c.args.fact.now c.play.result c.play.ensures)

pub returns-in-Leader : goal.returns-in-Leader
returns-in-Leader c =
    replays_so _ _ _ _ _ c.in-Leader.is
    (leader_replays c.in-Leader.leader c.play-in-Leader.new.self c.args.fact.now c.play-in-Leader.result c.play-in-Leader.ensures)

pub returns-in-Manager : goal.returns-in-Manager
returns-in-Manager c =
    replays_so _ _ _ _ _ c.in-Manager.is
    (manager_replays c.in-Manager.manager c.play-in-Manager.new.self c.args.fact.now c.play-in-Manager.result
    c.play-in-Manager.ensures.plays)
