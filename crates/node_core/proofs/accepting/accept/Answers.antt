use Rattle.std.proofs.Common.{sym, ap, subst}
use Rattle.protocol.specs.Nodes.{on_message}
use Rattle.protocol.specs.Decisions.{shown}
use Rattle.node_core.specs.Roles.{IsDecided, decided}
use Rattle.node_core.specs.declared.role.Role.TheVariants as roles
use Rattle.node_core.proofs.Deciding.{acceptor_decides}
use Rattle.node_core.proofs.Sparing.{decides_nothing}
use Rattle.node_core.proofs.accepting.accept.Goals as goal

pub returns-clause-carries : goal.returns-clause-carries
returns-clause-carries g c = λ config facts memory s.
    c.carry_out.ensures.carries config facts memory (on_message config c.args.who facts memory c.args.message.now)
    (subst (λ d. IsDecided config c.args.who facts memory (roles.Acceptor c.args.acceptor.now) d
    (on_message config c.args.who facts memory c.args.message.now))
    (sym (ap (decided c.on_message-decision.result.fact) c.put_reply.ensures))
    (acceptor_decides c.args.acceptor.now (shown c.on_message-decision.result) c.args.message.now c.on_message-decision.ensures config
    c.args.who facts memory s))

pub returns-clause-free : goal.returns-clause-free
returns-clause-free g c = λ config facts memory s none.
    c.carry_out.ensures.idle
    (decides_nothing config c.args.who facts memory (roles.Acceptor c.args.acceptor.now) (shown c.on_message-decision.result)
    (on_message config c.args.who facts memory c.args.message.now)
    (acceptor_decides c.args.acceptor.now (shown c.on_message-decision.result) c.args.message.now c.on_message-decision.ensures config
    c.args.who facts memory s) none)
