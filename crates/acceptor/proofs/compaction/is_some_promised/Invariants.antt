use Rattle.std.proofs.Common.{◌≡◌, drop}
use Rattle.std.specs.List.{list_any}
use Rattle.xid.specs.Transactions.{participants}
use Rattle.acceptor.specs.Slots.{slot_of}
use Rattle.acceptor.specs.Compaction.{is_promised}
use Rattle.acceptor.proofs.compaction.is_some_promised.Given as goal

abbrev pub invariant-loop-place : goal.invariant-loop-place
invariant-loop-place l =
    list_any (λ i. is_promised l.ballot (slot_of l.tx l.slots i)) (drop l.place (participants l.tx))
    ≡ list_any (λ i. is_promised l.ballot (slot_of l.tx l.slots i)) (participants l.tx)
