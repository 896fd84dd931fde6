use Rattle.std.proofs.Common.{drop}
use Rattle.transactions.specs.Seen.{at_places}
use Rattle.stable_record.proofs.Written.{HasAdded}
use Rattle.acceptor.specs.SlotTables.{slot_in}
use Rattle.acceptor.specs.Compaction.{compacted}
use Rattle.acceptor.proofs.shorter.frames_of.Given as goal

abbrev pub invariant-loop-i : goal.invariant-loop-i
invariant-loop-i l =
    HasAdded l.initial.frames.items l.frames.items (compacted (drop l.i (at_places l.table.transactions l.begun.numbers)) (slot_in l.table))
    (compacted (at_places l.table.transactions l.begun.numbers) (slot_in l.table))
