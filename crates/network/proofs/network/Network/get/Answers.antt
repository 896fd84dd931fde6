use Rattle.std.proofs.Common.{◌≡◌, ◌∙◌, ◌<◌, ◌⊎◌, ℕ, suc, List, length, sym, ap, subst, arith}
use Rattle.std.specs.Prelude.{Some}
use Rattle.protocol.specs.Worlds.{Datagram, datagram_at}
use Rattle.network.specs.Entries.{kept_in}
use Rattle.network.specs.Networks.{NetworkParts, StandsFor, IsKept}
use Rattle.network.proofs.Standing.{no_number}
use Rattle.network.proofs.Places.{count_is, found_at}
use Rattle.network.proofs.network.Network.get.Goals as goal

pub returns-in_default : goal.returns-in_default
returns-in_default c = λ net s.
    let at : StandsFor _ net = subst (λ (n : NetworkParts). StandsFor n net) (sym c.self.view_is) s in
    let count : c.len-count.result ≡ length net =
    omega (
      arith,
      count_is c.self.inside.bytes.items c.self.inside.entries.items net at.datagrams_are,
      c.len-count.ensures,
      c.self.inside.entries.ok.0,
    ) in
    no_number net c.args.number (subst (λ (n : ℕ). (c.args.number ≡ 0) ⊎ (n < c.args.number)) count c.in_default.ensures.none)

pub returns : goal.returns
returns c = λ net s.
    let at : StandsFor _ net = subst (λ (n : NetworkParts). StandsFor n net) (sym c.self.view_is) s in
    let found : (d : Datagram) × (datagram_at net (suc c.in-Some.place) ≡ Some d)
    × IsKept (kept_in c.self.inside.bytes.items c.index.result.now) d =
    found_at c.self.inside.bytes.items c.self.inside.entries.items c.in-Some.place c.index.result.now
    (omega (arith, c.in-Some.ensures.some.0, c.len-count.ensures, c.self.inside.entries.ok.0)) c.index.ensures net at.datagrams_are in (
      found.0,
      ap (λ (n : ℕ). datagram_at net n) c.in-Some.ensures.some.1 ∙ found.1,
      subst (λ k. IsKept k found.0)
          (ap (λ (bytes : List ℕ). kept_in bytes c.index.result.now) (sym c.deref.ensures.value) ∙ sym c.datagram.ensures) found.2,
    )
