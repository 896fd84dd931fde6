use Rattle.protocol.specs.Acceptors.{report_after, accept_item}
use Rattle.wire.specs.Messages.{IsBallot}
use Rattle.acceptor.specs.Slots.{slots_of}
use Rattle.acceptor.proofs.Instances.{Gathers}
use Rattle.acceptor.proofs.bundles.accepts_after.Given as goal

abbrev pub invariant-loop-place : goal.invariant-loop-place
invariant-loop-place l =
    Gathers l.tx (λ j. accept_item j (report_after (slots_of l.tx l.slots) l.tx l.accepted.instance l.accepted.ballot l.accepted.vote j))
    (λ item. IsBallot item.ballot) l.accepts l.place
