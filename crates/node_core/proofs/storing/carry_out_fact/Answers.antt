use Rattle.std.proofs.Common.{Some, sym, subst}
use Rattle.node_core.specs.Roles.{IsDecided, decided}
use Rattle.node_core.proofs.storing.carry_out_fact.Goals as goal

pub returns : goal.returns
returns g c = λ config facts memory e is.
    c.carry_out.ensures.carries config facts memory e
    (subst (λ fact. IsDecided config c.args.who facts memory c.args.role.now (decided (Some fact) c.args.out.now) e) (sym c.of.ensures) is)
