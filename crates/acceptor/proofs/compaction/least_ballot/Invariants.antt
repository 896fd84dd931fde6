use Rattle.std.proofs.Common.{◌≡◌, min, map, drop, fold}
use Rattle.xid.specs.Transactions.{participants}
use Rattle.acceptor.specs.Slots.{slot_of, slots_of}
use Rattle.acceptor.specs.Compaction.{least_ballot}
use Rattle.acceptor.proofs.compaction.least_ballot.Given as goal

abbrev pub invariant-loop-place : goal.invariant-loop-place
invariant-loop-place l =
    fold min l.least (map (λ i. (slot_of l.tx l.slots i).mbal) (drop l.place (participants l.tx)))
    ≡ least_ballot (slots_of l.tx l.slots) l.tx
