use Rattle.std.proofs.Common.{◌≡◌, ◌<◌, ◌≤◌, ◌+◌, ◌-◌, false, List, [], ◌∷◌, ◌++◌, length, map, refl, sym, subst, arith}
use Rattle.std.proofs.lemmas.List.{append-nil, length-map}
use Rattle.std.proofs.lemmas.List.Elements.{All-get_or}
use Rattle.protocol.specs.Worlds.{datagram_to}
use Rattle.network.specs.declared.entry.Entry.{Entry}
use Rattle.network.specs.Entries.{kept_in, IsNetwork}
use Rattle.network.specs.Networks.{NetworkParts, StandsFor, IsKept}
use Rattle.network.proofs.Places.{network_pushed, stands_pushed, count_is, last_kept}
use Rattle.network.proofs.network.Network.push_again.Goals as goal

pub invariant_of-self : goal.invariant_of-self
invariant_of-self c =
    let room : 0 < _ = subst (λ (n : NetworkParts). 0 < n.spare) (sym c.self.view_is) c.requires.datagram in
    let some : 0 < length (map (kept_in c.self.inside.bytes.items) c.self.inside.entries.items) =
    subst (λ (n : NetworkParts). 0 < length n.datagrams) (sym c.self.view_is) c.requires.some in
    let below : c.len.result - 1 < length c.self.inside.entries.items =
    omega (
      arith,
      some,
      length-map c.self.inside.entries.items (kept_in c.self.inside.bytes.items),
      c.len.ensures,
      c.self.inside.entries.ok.0,
    ) in
    let there : c.index-last.result.now.start + c.index-last.result.now.len ≤ length c.self.inside.bytes.items =
    subst (λ (e : Entry). e.start + e.len ≤ length c.self.inside.bytes.items) (sym c.index-last.ensures)
    (All-get_or (λ (e : Entry). e.start + e.len ≤ length c.self.inside.bytes.items) c.self.inside.entries.items (c.len.result - 1)
    c.index-last.result.now below c.self.invariant.within) in
    subst (λ (es : List Entry). IsNetwork c.self.inside.bytes.items es c.self.inside.front) (sym c.push_reserved.ensures.items)
    (network_pushed c.self.inside.bytes.items c.self.inside.bytes.items c.self.inside.entries.items
    (record {
      start = c.index-last.result.now.start;
      len = c.index-last.result.now.len;
      sender = c.index-last.result.now.sender;
      receiver = c.args.other;
      marked = false;
    })
    c.self.inside.front c.self.invariant (omega arith) there (omega (arith, room, c.self.inside.entries.ok.0)) refl)

pub returns-clause-stands : goal.returns-clause-stands
returns-clause-stands c = λ net last s.
    let at : StandsFor _ (net ++ last ∷ []) = subst (λ (n : NetworkParts). StandsFor n (net ++ last ∷ [])) (sym c.self.view_is) s in
    let some : 0 < length (map (kept_in c.self.inside.bytes.items) c.self.inside.entries.items) =
    subst (λ (n : NetworkParts). 0 < length n.datagrams) (sym c.self.view_is) c.requires.some in
    let place : c.len.result - 1 + 1 ≡ length c.self.inside.entries.items =
    omega (
      arith,
      some,
      length-map c.self.inside.entries.items (kept_in c.self.inside.bytes.items),
      c.len.ensures,
      c.self.inside.entries.ok.0,
    ) in
    let kept : IsKept (kept_in c.self.inside.bytes.items c.index-last.result.now) last =
    last_kept c.self.inside.bytes.items c.self.inside.entries.items (c.len.result - 1) c.index-last.result.now place c.index-last.ensures
    net last at.datagrams_are in
    record {
      datagrams_are =
          stands_pushed c.self.inside.bytes.items c.self.inside.bytes.items c.self.inside.entries.items
          (record {
            start = c.index-last.result.now.start;
            len = c.index-last.result.now.len;
            sender = c.index-last.result.now.sender;
            receiver = c.args.other;
            marked = false;
          })
          [] (sym (append-nil c.self.inside.bytes.items)) c.self.invariant.within c.push_reserved.new.self.items
          c.push_reserved.ensures.items
          (net ++ last ∷ []) (datagram_to last.sender last.message c.args.other) at.datagrams_are
          (record { sender_is = kept.sender_is; receiver_is = refl; marked_is = refl; spells = kept.spells });
    }

pub returns-clause-number : goal.returns-clause-number
returns-clause-number c = λ net s.
    let at : StandsFor _ net = subst (λ (n : NetworkParts). StandsFor n net) (sym c.self.view_is) s in
    omega (
      arith,
      count_is c.self.inside.bytes.items c.self.inside.entries.items net at.datagrams_are,
      c.self.inside.entries.ok.0,
      c.len-2.ensures,
      c.push_reserved.ensures.len,
    )
