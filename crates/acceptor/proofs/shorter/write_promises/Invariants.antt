use Rattle.std.proofs.Common.{drop}
use Rattle.std.specs.List.{flat_map}
use Rattle.xid.specs.Transactions.{participants}
use Rattle.stable_record.proofs.Written.{HasAdded}
use Rattle.acceptor.specs.Slots.{slot_of, slots_of}
use Rattle.acceptor.specs.Compaction.{common_ballot, promise_facts, promises_of}
use Rattle.acceptor.proofs.shorter.write_promises.Given as goal

abbrev pub invariant-loop-place : goal.invariant-loop-place
invariant-loop-place l =
    HasAdded l.fn.frames.items l.frames.items
    (flat_map (λ i. promise_facts l.tx (common_ballot (slots_of l.tx l.slots) l.tx) i (slot_of l.tx l.slots i))
    (drop l.place (participants l.tx)))
    (promises_of (slots_of l.tx l.slots) l.tx)
