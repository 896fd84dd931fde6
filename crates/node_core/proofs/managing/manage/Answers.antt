use Rattle.std.proofs.Common.{sym, ap, subst}
use Rattle.protocol.specs.Nodes.{on_message}
use Rattle.protocol.specs.Decisions.{shown}
use Rattle.node_core.specs.Roles.{IsDecided, decided}
use Rattle.node_core.specs.declared.role.Role.TheVariants as roles
use Rattle.node_core.proofs.Deciding.{manager_decides}
use Rattle.node_core.proofs.managing.manage.Goals as goal

pub returns-in-Ok : goal.returns-in-Ok
returns-in-Ok g c = λ config facts memory s.
    c.carry_out.ensures.carries config facts memory (on_message config c.args.who facts memory c.args.message.now)
    (subst (λ d. IsDecided config c.args.who facts memory (roles.Manager c.args.manager.now) d
    (on_message config c.args.who facts memory c.args.message.now))
    (sym (ap (decided c.in-Ok.decision.fact) c.put_reply.ensures))
    (manager_decides c.args.manager.now (shown c.in-Ok.decision) c.args.message.now c.in-Ok.ensures.ok config c.args.who facts memory s))
