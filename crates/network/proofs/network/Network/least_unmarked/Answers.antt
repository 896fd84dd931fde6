use Rattle.std.proofs.Common.{sym, subst, arith}
use Rattle.network.specs.Networks.{NetworkParts, StandsFor}
use Rattle.network.proofs.Places.{least_below, least_none}
use Rattle.network.proofs.network.Network.least_unmarked.Goals as goal

pub returns-then-self-len : goal.returns-then-self-len
returns-then-self-len c = λ net s.
    let at : StandsFor _ net = subst (λ (n : NetworkParts). StandsFor n net) (sym c.self.view_is) s in
    least_below c.self.inside.bytes.items c.self.inside.entries.items c.self.inside.front c.self.invariant net at.datagrams_are
    (omega (arith, c.if-self-len.true, c.len.ensures, c.self.inside.entries.ok.0))

pub returns-else-self-len : goal.returns-else-self-len
returns-else-self-len c = λ net s.
    let at : StandsFor _ net = subst (λ (n : NetworkParts). StandsFor n net) (sym c.self.view_is) s in
    least_none c.self.inside.bytes.items c.self.inside.entries.items c.self.inside.front c.self.invariant net at.datagrams_are
    (omega (arith, c.if-self-len.false, c.len.ensures, c.self.inside.entries.ok.0))
