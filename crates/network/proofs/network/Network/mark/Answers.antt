use Rattle.std.proofs.Common.{◌≡◌, ◌∙◌, ◌<◌, ◌≤◌, ◌⊎◌, ℕ, suc, List, length, map, set, refl, sym, ap, subst, arith}
use Rattle.std.specs.Prelude.{Option, Some, is_some}
use Rattle.std.specs.List.{AllZip, prefix_len}
use Rattle.protocol.specs.Worlds.{Datagram, datagram_at, mark_at}
use Rattle.network.specs.declared.entry.Entry.{Entry}
use Rattle.network.specs.Entries.{kept_in}
use Rattle.network.specs.Networks.{NetworkParts, StandsFor, IsKept}
use Rattle.network.proofs.Front.{front_set, front_set_other}
use Rattle.network.proofs.Standing.{no_number, mark_none}
use Rattle.network.proofs.Places.{marked_entry, count_is, found_at, network_marked, datagrams_marked}
use Rattle.network.proofs.network.Network.mark.Goals as goal

pub returns-in_default-clause-stands : goal.returns-in_default-clause-stands
returns-in_default-clause-stands c = λ net s.
    let at : StandsFor _ net = subst (λ (n : NetworkParts). StandsFor n net) (sym c.self.view_is) s in
    let count : c.len.result ≡ length net =
    omega (
      arith,
      count_is c.self.inside.bytes.items c.self.inside.entries.items net at.datagrams_are,
      c.len.ensures,
      c.self.inside.entries.ok.0,
    ) in
    subst (λ (n : List Datagram). StandsFor c.args.self.now n)
    (sym (mark_none net c.args.number (subst (λ (n : ℕ). (c.args.number ≡ 0) ⊎ (n < c.args.number)) count c.in_default.ensures.none))) s

pub returns-in_default-clause-found : goal.returns-in_default-clause-found
returns-in_default-clause-found c = λ net s.
    let at : StandsFor _ net = subst (λ (n : NetworkParts). StandsFor n net) (sym c.self.view_is) s in
    let count : c.len.result ≡ length net =
    omega (
      arith,
      count_is c.self.inside.bytes.items c.self.inside.entries.items net at.datagrams_are,
      c.len.ensures,
      c.self.inside.entries.ok.0,
    ) in
    sym (ap (λ (o : Option Datagram). is_some o)
    (no_number net c.args.number (subst (λ (n : ℕ). (c.args.number ≡ 0) ⊎ (n < c.args.number)) count c.in_default.ensures.none)))

pub marked_front-self-inside-requires : goal.marked_front-self-inside-requires
marked_front-self-inside-requires c =
    let more : c.in-Some.place ≤ prefix_len (λ (e : Entry). e.marked)
    (set c.self.inside.entries.items c.in-Some.place (marked_entry c.index_mut.result.now)) =
    omega (
      arith,
      front_set (λ (e : Entry). e.marked) c.self.inside.entries.items c.in-Some.place (marked_entry c.index_mut.result.now) refl,
      c.if-place-self.true,
      c.self.invariant.front_is,
    ) in
    subst (λ (es : List Entry). c.in-Some.place ≤ prefix_len (λ e. e.marked) es) (sym c.deref.ensures.value) more

pub invariant_of-self-else-place-self : goal.invariant_of-self-else-place-self
invariant_of-self-else-place-self c =
    network_marked c.self.inside.bytes.items c.self.inside.entries.items c.in-Some.place c.index_mut.result.now
    (omega (arith, c.in-Some.ensures.some.0, c.len.ensures, c.self.inside.entries.ok.0)) c.index_mut.ensures.value
    c.self.inside.front c.self.inside.front c.self.invariant
    (c.self.invariant.front_is
    ∙ sym (front_set_other (λ (e : Entry). e.marked) c.self.inside.entries.items c.in-Some.place (marked_entry c.index_mut.result.now) refl
    (λ e. c.if-place-self.false (e ∙ sym c.self.invariant.front_is))))

pub returns-then-place-self-clause-stands : goal.returns-then-place-self-clause-stands
returns-then-place-self-clause-stands c = λ net s.
    let at : StandsFor _ net = subst (λ (n : NetworkParts). StandsFor n net) (sym c.self.view_is) s in
    record {
      datagrams_are = subst
          (λ (n : ℕ). AllZip IsKept (map (kept_in c.self.inside.bytes.items)
          (set c.self.inside.entries.items c.in-Some.place (marked_entry c.index_mut.result.now))) (mark_at net n))
          (sym c.in-Some.ensures.some.1)
          (datagrams_marked c.self.inside.bytes.items c.self.inside.entries.items c.in-Some.place c.index_mut.result.now
          (omega (arith, c.in-Some.ensures.some.0, c.len.ensures, c.self.inside.entries.ok.0)) c.index_mut.ensures.value net
          at.datagrams_are);
    }

pub returns-then-place-self-clause-found : goal.returns-then-place-self-clause-found
returns-then-place-self-clause-found c = λ net s.
    let at : StandsFor _ net = subst (λ (n : NetworkParts). StandsFor n net) (sym c.self.view_is) s in
    let found : (d : Datagram) × (datagram_at net (suc c.in-Some.place) ≡ Some d)
    × IsKept (kept_in c.self.inside.bytes.items c.index_mut.result.now) d =
    found_at c.self.inside.bytes.items c.self.inside.entries.items c.in-Some.place c.index_mut.result.now
    (omega (arith, c.in-Some.ensures.some.0, c.len.ensures, c.self.inside.entries.ok.0)) c.index_mut.ensures.value net at.datagrams_are in
    sym (ap (λ (n : ℕ). is_some (datagram_at net n)) c.in-Some.ensures.some.1 ∙ ap (λ (o : Option Datagram). is_some o) found.1)

pub returns-else-place-self-clause-stands : goal.returns-else-place-self-clause-stands
returns-else-place-self-clause-stands c = λ net s.
    let at : StandsFor _ net = subst (λ (n : NetworkParts). StandsFor n net) (sym c.self.view_is) s in
    record {
      datagrams_are = subst
          (λ (n : ℕ). AllZip IsKept (map (kept_in c.self.inside.bytes.items)
          (set c.self.inside.entries.items c.in-Some.place (marked_entry c.index_mut.result.now))) (mark_at net n))
          (sym c.in-Some.ensures.some.1)
          (datagrams_marked c.self.inside.bytes.items c.self.inside.entries.items c.in-Some.place c.index_mut.result.now
          (omega (arith, c.in-Some.ensures.some.0, c.len.ensures, c.self.inside.entries.ok.0)) c.index_mut.ensures.value net
          at.datagrams_are);
    }

pub returns-else-place-self-clause-found : goal.returns-else-place-self-clause-found
returns-else-place-self-clause-found c = λ net s.
    let at : StandsFor _ net = subst (λ (n : NetworkParts). StandsFor n net) (sym c.self.view_is) s in
    let found : (d : Datagram) × (datagram_at net (suc c.in-Some.place) ≡ Some d)
    × IsKept (kept_in c.self.inside.bytes.items c.index_mut.result.now) d =
    found_at c.self.inside.bytes.items c.self.inside.entries.items c.in-Some.place c.index_mut.result.now
    (omega (arith, c.in-Some.ensures.some.0, c.len.ensures, c.self.inside.entries.ok.0)) c.index_mut.ensures.value net at.datagrams_are in
    sym (ap (λ (n : ℕ). is_some (datagram_at net n)) c.in-Some.ensures.some.1 ∙ ap (λ (o : Option Datagram). is_some o) found.1)
