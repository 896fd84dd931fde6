use Rattle.std.proofs.Common.{subst}
use Rattle.node_core.specs.Roles.{RoleStands}
use Rattle.node_core.proofs.acting.play.Goals as goal

pub returns-in-Leader-clause-carries : goal.returns-in-Leader-clause-carries
returns-in-Leader-clause-carries g c = λ config facts memory s.
    c.lead.ensures config c.args.who facts memory (g.R.Record.held c.args.device.now)
    (subst (λ role. RoleStands config c.args.who role facts memory) c.in-Leader.is s)
