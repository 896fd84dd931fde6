use Rattle.std.proofs.Common.{ℕ, [], refl, subst}
use Rattle.node_core.specs.Configs.{config_by}
use Rattle.floors.specs.Worlds.{notices_of}
use Rattle.port.specs.Calls.{TellsAll}
use Rattle.port.proofs.Raising.{raised_done, raised_not}
use Rattle.port.proofs.calling.raise.Goals as goal

pub returns-in-Err : goal.returns-in-Err
returns-in-Err g c =
    raised_not g.P.Port.sent c.args.floor.now c.args.member.now.floored.node.who c.in-R.rm (c.in-R.ensures) c.args.member.now
    c.raise.new.self c.args.port.now c.in-Err.refusal c.in-Err.ensures

pub returns : goal.returns
returns g c =
    raised_done g.P.Port.sent c.args.floor.now c.args.member.now.floored.node.who c.in-R.rm (c.in-R.ensures) c.sizes-sizes.result
    c.args.member.now refl c.sizes-sizes.ensures c.raise.new.self c.args.port.now c.tell.new.port c.in-Ok.ensures c.floor.result
    c.floor.ensures
    (subst (λ (n : ℕ). TellsAll g.P.Port.sent c.args.port.now c.tell.new.port
    (notices_of (config_by c.sizes-sizes.result []) n c.floor.result)) c.from.ensures c.tell.ensures)
