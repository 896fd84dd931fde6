use Rattle.std.proofs.Common.{◌∙◌, ℕ, Ok, Err, sym, ap, subst}
use Rattle.xid.specs.declared.refusals.Refusal.TheVariants.{Damaged, NoMemory}
use Rattle.protocol.specs.Effects.{Config}
use Rattle.stable_record.specs.Parts.{IsPlayed}
use Rattle.transactions.specs.Seen.{at_places, seen_with}
use Rattle.transactions.proofs.Places.{at_places_seen}
use Rattle.acceptor.specs.Acceptors.{acceptor_part}
use Rattle.acceptor.specs.SlotTables.{IsSeen, slot_in}
use Rattle.acceptor.specs.contracts.acceptor.Acceptor.{the_view}
use Rattle.acceptor.proofs.Standing.{plays_there, plays_same, is_damaged, lacks_memory, is_played, with_parts}
use Rattle.acceptor.proofs.acceptor.Acceptor.play_first.Goals as goal

pub returns-then-not-plays : goal.returns-then-not-plays
returns-then-not-plays c =
    subst (λ a. (config : Config) (number : ℕ) → IsPlayed (acceptor_part config number) a a c.args.fact.now (Err Damaged)) c.self.view_is
    (is_damaged _ c.args.fact.now
    (plays_there c.self.inside.table c.args.fact.now c.args.tx.now c.slots_of.result.now _ c.requires
    c.slots_of.ensures c.if-not-plays.ensures))

pub returns-in_default : goal.returns-in_default
returns-in_default c =
    let a = the_view c.self.inside in
    let begun = at_places c.see.new.self.transactions c.self.inside.begun.numbers in
    subst
    (λ old. (config : Config) (number : ℕ)
    → IsPlayed (acceptor_part config number) old (with_parts a c.see.new.self begun c.self.inside.begun.room) c.args.fact.now
    (Err NoMemory))
    c.self.view_is
    (lacks_memory a c.args.fact.now c.see.new.self begun c.self.inside.begun.room
    (plays_there c.self.inside.table c.args.fact.now c.args.tx.now c.slots_of.result.now _ c.requires c.slots_of.ensures
    c.if-not-plays.ensures)
    (λ ready. c.in_default.ensures.err.1 (subst (IsSeen c.self.inside.table) (sym c.requires) ready.0))
    (λ tx i. ap (λ t. slot_in t tx i) c.in_default.ensures.err.2)
    (ap (λ t. at_places t.transactions c.self.inside.begun.numbers) c.in_default.ensures.err.2))

pub returns-in_default-begin : goal.returns-in_default-begin
returns-in_default-begin c =
    let a = the_view c.self.inside in
    let begun = at_places c.see.new.self.transactions c.begin.new.begun.numbers in
    subst
    (λ old. (config : Config) (number : ℕ)
    → IsPlayed (acceptor_part config number) old (with_parts a c.see.new.self begun c.begin.new.begun.room) c.args.fact.now (Err NoMemory))
    c.self.view_is
    (lacks_memory a c.args.fact.now c.see.new.self begun c.begin.new.begun.room
    (plays_there c.self.inside.table c.args.fact.now c.args.tx.now c.slots_of.result.now _ c.requires c.slots_of.ensures
    c.if-not-plays.ensures)
    (λ ready. c.in_default-begin.ensures.err.1 ready.1) c.in-Ok.ensures.same
    (ap (at_places c.see.new.self.transactions) c.in_default-begin.ensures.err.2
    ∙ ap (λ ts. at_places ts c.self.inside.begun.numbers) c.in-Ok.ensures.transactions
    ∙ at_places_seen c.self.inside.table.transactions c.args.tx.now c.self.inside.begun.numbers c.self.invariant.2))

pub returns : goal.returns
returns c =
    let a = the_view c.self.inside in
    let begun = at_places c.change.new.self.transactions c.begin.new.begun.numbers in
    subst
    (λ old. (config : Config) (number : ℕ)
    → IsPlayed (acceptor_part config number) old (with_parts a c.change.new.self begun c.begin.new.begun.room) c.args.fact.now (Ok tt))
    c.self.view_is
    (is_played a c.args.fact.now c.see.new.self c.change.new.self begun c.begin.new.begun.room
    (plays_there c.self.inside.table c.args.fact.now c.args.tx.now c.slots_of.result.now _ c.requires c.slots_of.ensures
    c.if-not-plays.ensures)
    c.in-Ok.ensures.same c.change.ensures.slots
    (ap (λ ts. at_places ts c.begin.new.begun.numbers) c.change.ensures.transactions ∙ c.in-Ok-begin.ensures.ok
    ∙ (λ k. seen_with ((ap (λ ts. at_places ts c.self.inside.begun.numbers) c.in-Ok.ensures.transactions
    ∙ at_places_seen c.self.inside.table.transactions c.args.tx.now c.self.inside.begun.numbers c.self.invariant.2) k) (c.requires k))))

pub change-requires-clause-plays : goal.change-requires-clause-plays
change-requires-clause-plays c =
    plays_same c.self.inside.table c.see.new.self c.args.fact.now c.in-Ok.ensures.same
    (plays_there c.self.inside.table c.args.fact.now c.args.tx.now c.slots_of.result.now _ c.requires
    c.slots_of.ensures c.if-not-plays.ensures)
