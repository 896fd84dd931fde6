use Rattle.std.proofs.Common.{◌∙◌, sym, subst}
use Rattle.node_core.specs.Roles.{IsDecided, decided}
use Rattle.node_core.proofs.storing.carry_out_asked.Goals as goal

pub returns-clause-carries : goal.returns-clause-carries
returns-clause-carries g c = λ config facts memory e is.
    c.carry_out_fact.ensures config facts memory e
    (subst (λ fact. IsDecided config c.args.who facts memory c.args.role.now (decided fact c.args.out.now) e)
    (sym c.take.ensures.value ∙ c.in-Some-take.is) is)
