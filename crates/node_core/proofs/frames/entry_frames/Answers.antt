use Rattle.node_core.proofs.Current.{frames_next}
use Rattle.node_core.proofs.frames.entry_frames.Goals as goal

pub loop-entry-preserved : goal.loop-entry-preserved
loop-entry-preserved c =
    frames_next c.args.all.now c.loop-entry.entry-index c.entry-item.result c.loop-entry.frames.items c.write.new.out.items
    c.loop-entry-test.true c.entry-item.is c.write.ensures.valid c.in_ok-write.ensures.ok c.loop-entry.invariant
