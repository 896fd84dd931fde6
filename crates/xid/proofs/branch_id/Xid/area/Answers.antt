use Rattle.std.proofs.Common.{◌∙◌, length, refl}
use Rattle.xid.proofs.Padded.{area-made}
use Rattle.xid.proofs.branch_id.Xid.area.Goals as goal

pub returns : goal.returns
returns c =
    c.put_at-2.ensures
    ∙ rw (c.put_at.ensures, c.as_bytes-gtrid.ensures.bytes, c.as_bytes-bqual.ensures.bytes, ← c.self.view_is)
    (area-made c.self.inside.gtrid c.self.inside.bqual c.self.invariant.gtrid.few c.self.invariant.bqual.few
    (length c.self.inside.gtrid) refl)
