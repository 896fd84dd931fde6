use Rattle.std.proofs.Common.{sym, subst, arith}
use Rattle.network.specs.Networks.{NetworkParts, StandsFor}
use Rattle.network.proofs.Places.{count_is}
use Rattle.network.proofs.network.Network.len.Goals as goal

pub returns-clause-stands : goal.returns-clause-stands
returns-clause-stands c = λ net s.
    let at : StandsFor _ net = subst (λ (n : NetworkParts). StandsFor n net) (sym c.self.view_is) s in
    omega (
      arith,
      count_is c.self.inside.bytes.items c.self.inside.entries.items net at.datagrams_are,
      c.len.ensures,
      c.self.inside.entries.ok.0,
    )
