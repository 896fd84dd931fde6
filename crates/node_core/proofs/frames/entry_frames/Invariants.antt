use Rattle.std.proofs.Common.{take}
use Rattle.stable_record.specs.Written.{AreWritten}
use Rattle.node_core.proofs.frames.entry_frames.Given as goal

abbrev pub invariant-loop-entry : goal.invariant-loop-entry
invariant-loop-entry l = AreWritten l.frames.items (take l.entry-index l.all)
