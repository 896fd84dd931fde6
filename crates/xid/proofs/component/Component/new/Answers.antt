use Rattle.xid.proofs.Padded.{padded-made}
use Rattle.xid.proofs.component.Component.new.Goals as goal

pub invariant_of-result : goal.invariant_of-result
invariant_of-result c = rw c.copy_from_slice.ensures.after (padded-made c.args.bytes.now c.requires)
