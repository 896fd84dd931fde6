use Rattle.std.proofs.Common.{refl}
use Rattle.node_core.specs.Roles.{decided}
use Rattle.node_core.proofs.Stopping.{was_stopped}
use Rattle.node_core.proofs.storing.carry_out.Goals as goal

pub returns-in-Err-store-clause-carries : goal.returns-in-Err-store-clause-carries
returns-in-Err-store-clause-carries g c = λ config facts memory e is.
    was_stopped config c.args.who facts memory e (g.P.Playing.role c.args.role.now) (decided c.args.fact.now c.args.out.now) _ _ _
    c.in-Err-store.stopped _ c.stop.new.self is c.in-Some.is c.store.ensures.valid c.in-Err-store.ensures.stored
    refl c.stop.ensures
