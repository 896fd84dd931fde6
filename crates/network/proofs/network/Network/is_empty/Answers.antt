use Rattle.std.proofs.Common.{◌≡◌, ◌==◌, ◌∙◌, ℕ, length, sym, ap, subst, arith}
use Rattle.network.specs.Networks.{NetworkParts, StandsFor}
use Rattle.network.proofs.Places.{count_is}
use Rattle.network.proofs.network.Network.is_empty.Goals as goal

pub returns : goal.returns
returns c = λ net s.
    let at : StandsFor _ net = subst (λ (n : NetworkParts). StandsFor n net) (sym c.self.view_is) s in
    let count : c.self.inside.entries.len ≡ length net =
    omega (arith, count_is c.self.inside.bytes.items c.self.inside.entries.items net at.datagrams_are, c.self.inside.entries.ok.0) in
    c.is_empty.ensures ∙ ap (λ (n : ℕ). n == 0) count
