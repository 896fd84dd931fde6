use Rattle.std.proofs.Common.{◌≡◌, ◌∙◌, ◌<◌, false, List, length, refl, sym, ap, subst, arith, length-append}
use Rattle.protocol.specs.Worlds.{datagram_to}
use Rattle.network.specs.declared.entry.Entry.{Entry}
use Rattle.network.specs.Entries.{IsNetwork}
use Rattle.network.specs.Networks.{NetworkParts, StandsFor}
use Rattle.network.proofs.Places.{spelled_at_end, network_pushed, stands_pushed, count_is}
use Rattle.network.proofs.network.Network.push.Goals as goal

pub invariant_of-self : goal.invariant_of-self
invariant_of-self c =
    let room : 0 < _ = subst (λ (n : NetworkParts). 0 < n.spare) (sym c.self.view_is) c.requires.datagram in
    let long : length c.put.new.bytes.items ≡ _ =
    ap length c.put.ensures.items ∙ length-append c.self.inside.bytes.items c.args.bytes.now in
    subst (λ (es : List Entry). IsNetwork c.put.new.bytes.items es c.self.inside.front) (sym c.push_reserved.ensures.items)
    (network_pushed c.self.inside.bytes.items c.put.new.bytes.items c.self.inside.entries.items
    (record {
      start = c.len-start.result;
      len = length c.args.bytes.now;
      sender = c.args.sender;
      receiver = c.args.receiver;
      marked = false;
    })
    c.self.inside.front c.self.invariant (omega (arith, long))
    (omega (arith, long, c.len-start.ensures, c.self.inside.bytes.ok.0))
    (omega (arith, room, c.self.inside.entries.ok.0)) refl)

pub returns-clause-stands : goal.returns-clause-stands
returns-clause-stands c = λ net message spells s.
    let at : StandsFor _ net = subst (λ (n : NetworkParts). StandsFor n net) (sym c.self.view_is) s in
    let starts : c.len-start.result ≡ length c.self.inside.bytes.items = omega (arith, c.len-start.ensures, c.self.inside.bytes.ok.0) in
    record {
      datagrams_are =
          stands_pushed c.self.inside.bytes.items c.put.new.bytes.items c.self.inside.entries.items
          (record {
            start = c.len-start.result;
            len = length c.args.bytes.now;
            sender = c.args.sender;
            receiver = c.args.receiver;
            marked = false;
          })
          c.args.bytes.now c.put.ensures.items c.self.invariant.within c.push_reserved.new.self.items
          c.push_reserved.ensures.items net (datagram_to c.args.sender message c.args.receiver) at.datagrams_are
          (record {
            sender_is = refl;
            receiver_is = refl;
            marked_is = refl;
            spells = record {
              message = spells.message;
              spelled = spelled_at_end c.self.inside.bytes.items c.args.bytes.now c.put.new.bytes.items c.len-start.result
                  (length c.args.bytes.now) c.put.ensures.items starts refl ∙ spells.spelled;
            };
          });
    }

pub returns-clause-number : goal.returns-clause-number
returns-clause-number c = λ net s.
    let at : StandsFor _ net = subst (λ (n : NetworkParts). StandsFor n net) (sym c.self.view_is) s in
    omega (
      arith,
      count_is c.self.inside.bytes.items c.self.inside.entries.items net at.datagrams_are,
      c.self.inside.entries.ok.0,
      c.len.ensures,
      c.push_reserved.ensures.len,
    )
