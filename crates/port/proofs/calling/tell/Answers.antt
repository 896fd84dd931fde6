use Rattle.std.proofs.Common.{[], ◌++◌, Option, subst, sym}
use Rattle.xid.specs.Places.{Place}
use Rattle.node_core.specs.Configs.{config_by}
use Rattle.floors.specs.Worlds.{notices_of}
use Rattle.port.specs.Calls.{TellsAll, acceptors_below, leaders_below}
use Rattle.port.proofs.Sending.{tells_to, to_then}
use Rattle.port.proofs.calling.tell.Goals as goal

pub returns : goal.returns
returns g c =
    let sent = g.P.Port.sent in
    let acceptors = acceptors_below c.args.sizes.acceptors in
    let leaders = leaders_below c.args.sizes.leaders in
    subst (λ (floor : Option Place). TellsAll sent c.args.port.now c.send_to_leaders.new.port
    (notices_of (config_by c.args.sizes []) c.args.manager floor)) (sym c.in-Some.is)
    (tells_to sent c.args.manager _ _ c.encode-len.ensures.spells (acceptors ++ leaders) c.args.port.now c.send_to_leaders.new.port
    (to_then sent _ acceptors leaders c.args.port.now c.send_to_acceptors.new.port c.send_to_leaders.new.port c.send_to_acceptors.ensures
    c.send_to_leaders.ensures))
