use Rattle.std.proofs.Common.{rules, ◌<◌, ◌^◌, ℕ, subst}
use Rattle.xid.specs.Names.{IsBytes}
use Rattle.stable_record.proofs.Floors.{all_fit, place_put}
use Rattle.wire.proofs.Spelled.{bytes_after}
use Rattle.stable_record.proofs.floor_frame.put_place.Goals as goal

pub returns-clause-put : goal.returns-clause-put
returns-clause-put c =
    place_put c.args.out.now.items c.put_number.new.out.items c.push.new.self.items c.extend_from_slice.new.self.items c.args.floor.now
    (search (rules, c.in_ok-put_number.ensures, c.format-format.ensures))
    (search (rules, c.in_ok-push.ensures.items, c.gtrid-gtrid.ensures.value))
    (search (rules, c.in_ok-extend_from_slice.ensures.items, c.gtrid-gtrid.ensures.value))

pub returns-clause-valid : goal.returns-clause-valid
returns-clause-valid c = record {
  format = subst (λ (n : ℕ). n < 2 ^ 32) c.format-format.ensures c.format-format.type_inv;
  few = c.gtrid-gtrid.ensures.few;
  bytes = subst IsBytes c.gtrid-gtrid.ensures.value
      (bytes_after c.push.new.self.items c.gtrid-gtrid.result.now
      (subst IsBytes c.in_ok-extend_from_slice.ensures.items (all_fit c.extend_from_slice.new.self.items c.type_inv.out)));
}
