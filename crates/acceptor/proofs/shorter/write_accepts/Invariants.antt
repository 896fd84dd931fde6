use Rattle.std.proofs.Common.{drop}
use Rattle.std.specs.List.{flat_map}
use Rattle.xid.specs.Transactions.{participants}
use Rattle.stable_record.proofs.Written.{HasAdded}
use Rattle.acceptor.specs.Slots.{slot_of}
use Rattle.acceptor.specs.Compaction.{accept_facts}
use Rattle.acceptor.proofs.shorter.write_accepts.Given as goal

abbrev pub invariant-loop-place : goal.invariant-loop-place
invariant-loop-place l =
    HasAdded l.fn.frames.items l.frames.items
    (flat_map (λ i. accept_facts l.tx i (slot_of l.tx l.slots i).report) (drop l.place (participants l.tx)))
    (flat_map (λ i. accept_facts l.tx i (slot_of l.tx l.slots i).report) (participants l.tx))
