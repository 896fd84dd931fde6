use Rattle.std.proofs.Common.{arith}
use Rattle.std.specs.Set.{is_member}
use Rattle.xid.specs.Names.{xid_eq}
use Rattle.serving.proofs.ByNumberLemmas.{one_more}
use Rattle.serving.proofs.by_number.add_all.Goals as goal

pub loop-xid-preserved : goal.loop-xid-preserved
loop-xid-preserved c x =
    one_more c.args.names.now c.loop-xid.xid-index c.xid-item.result x (is_member xid_eq c.args.found.now.keys x)
    (is_member xid_eq c.loop-xid.found.keys x) (is_member xid_eq c.insert.new.self.keys x) (omega arith) c.xid-item.is
    (c.loop-xid.invariant x) (c.in_ok-insert.ensures.updates.0 x)
