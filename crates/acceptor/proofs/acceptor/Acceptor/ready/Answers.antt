use Rattle.std.proofs.Common.{◌∙◌, ◌<◌, ap, subst}
use Rattle.stable_record.specs.Parts.{IsMadeReady}
use Rattle.transactions.specs.Seen.{at_places}
use Rattle.transactions.proofs.Places.{at_places_seen}
use Rattle.acceptor.specs.Acceptors.{acceptor_part}
use Rattle.acceptor.specs.SlotTables.{IsSeen}
use Rattle.acceptor.specs.contracts.acceptor.Acceptor.{the_view}
use Rattle.acceptor.proofs.Standing.{is_ready, with_parts}
use Rattle.acceptor.proofs.acceptor.Acceptor.ready.Goals as goal

pub returns-in-Ok : goal.returns-in-Ok
returns-in-Ok c = λ config number fact about.
    let a = the_view c.self.inside in
    let numbers = c.self.inside.begun.numbers in
    let begun = at_places c.see.new.self.transactions c.reserve.new.self.numbers in
    subst
    (λ old. IsMadeReady (acceptor_part config number) old (with_parts a c.see.new.self begun c.reserve.new.self.room) fact c.reserve.result)
    c.self.view_is
    (is_ready a fact c.see.new.self begun c.reserve.new.self.room c.reserve.result c.in-Ok.ensures.same
    (ap (at_places c.see.new.self.transactions) c.reserve.ensures.numbers ∙ ap (λ ts. at_places ts numbers) c.in-Ok.ensures.transactions
    ∙ at_places_seen c.self.inside.table.transactions c.args.tx.now numbers c.self.invariant.2)
    (subst (IsSeen c.see.new.self) about c.in-Ok.ensures.seen) c.reserve.ensures.room (¬ (0 < c.self.inside.begun.room))
    c.reserve.ensures.err config number)
