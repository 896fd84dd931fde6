use Rattle.std.proofs.Common.{◌<◌, ◌^◌, ℕ, subst, take}
use Rattle.std.proofs.Math.Facts.{Fits-lt-pow}
use Rattle.xid.specs.Names.{IsBytes}
use Rattle.wire.proofs.Places.{component_put}
use Rattle.wire.proofs.notice.put_place.Goals as goal

pub returns-clause-valid : goal.returns-clause-valid
returns-clause-valid c = record {
  format = subst (λ (n : ℕ). n < 2 ^ 32) c.format.ensures c.format.type_inv;
  few = c.gtrid.ensures.few;
  bytes = subst IsBytes c.gtrid.ensures.value
      (component_put c.put_component.result c.put_component.new.out (take c.put_number-at.result c.put_number-at.new.out)
      c.gtrid.result.now (λ i. Fits-lt-pow (c.type_inv.out i)) c.put_component.ensures.shown);
}
