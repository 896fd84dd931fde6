use Rattle.std.proofs.Common.{◌∙◌, ℕ, [], get_or, Ok, Err, refl, ap, subst}
use Rattle.xid.specs.declared.refusals.Refusal.TheVariants.{Damaged, NoMemory}
use Rattle.protocol.specs.Effects.{Config}
use Rattle.stable_record.specs.Parts.{IsPlayed}
use Rattle.transactions.specs.Seen.{at_places, seen_with}
use Rattle.acceptor.specs.Acceptors.{acceptor_part}
use Rattle.acceptor.specs.contracts.acceptor.Acceptor.{the_view}
use Rattle.acceptor.proofs.Standing.{plays_there, is_damaged, lacks_memory, is_played, with_parts}
use Rattle.acceptor.proofs.acceptor.Acceptor.play.Goals as goal

pub returns-then-not-plays : goal.returns-then-not-plays
returns-then-not-plays c =
    let slots = c.slots.ensures ∙ ap (λ n. get_or c.self.inside.table.slots n []) c.in-Some.ensures.0 in
    subst (λ a. (config : Config) (number : ℕ) → IsPlayed (acceptor_part config number) a a c.args.fact.now (Err Damaged)) c.self.view_is
    (is_damaged _ c.args.fact.now
    (plays_there c.self.inside.table c.args.fact.now c.tx-tx.result.now c.slots.result.now _
    c.tx-tx.ensures.value slots c.if-not-plays.ensures))

pub returns-in_default-begin : goal.returns-in_default-begin
returns-in_default-begin c =
    let slots = c.slots.ensures ∙ ap (λ n. get_or c.self.inside.table.slots n []) c.in-Some.ensures.0 in
    let a = the_view c.self.inside in
    let begun = at_places c.self.inside.table.transactions c.begin.new.begun.numbers in
    subst
    (λ old. (config : Config) (number : ℕ)
    → IsPlayed (acceptor_part config number) old (with_parts a c.self.inside.table begun c.begin.new.begun.room) c.args.fact.now
    (Err NoMemory))
    c.self.view_is
    (lacks_memory a c.args.fact.now c.self.inside.table begun c.begin.new.begun.room
    (plays_there c.self.inside.table c.args.fact.now c.tx-tx.result.now c.slots.result.now _
    c.tx-tx.ensures.value slots c.if-not-plays.ensures)
    (λ ready. c.in_default-begin.ensures.err.1 ready.1) (λ tx i. refl)
    (ap (at_places c.self.inside.table.transactions) c.in_default-begin.ensures.err.2))

pub returns : goal.returns
returns c =
    let slots = c.slots.ensures ∙ ap (λ n. get_or c.self.inside.table.slots n []) c.in-Some.ensures.0 in
    let a = the_view c.self.inside in
    let named = c.tx-tx.ensures.value in
    let begun = at_places c.change.new.self.transactions c.begin.new.begun.numbers in
    subst
    (λ old. (config : Config) (number : ℕ)
    → IsPlayed (acceptor_part config number) old (with_parts a c.change.new.self begun c.begin.new.begun.room) c.args.fact.now (Ok tt))
    c.self.view_is
    (is_played a c.args.fact.now c.self.inside.table c.change.new.self begun c.begin.new.begun.room
    (plays_there c.self.inside.table c.args.fact.now c.tx-tx.result.now c.slots.result.now _ named slots c.if-not-plays.ensures)
    (λ tx i. refl) c.change.ensures.slots
    (ap (λ ts. at_places ts c.begin.new.begun.numbers) c.change.ensures.transactions ∙ c.in-Ok.ensures.ok
    ∙ ap (λ tx. seen_with a.begun tx) named))

pub change-requires-clause-plays : goal.change-requires-clause-plays
change-requires-clause-plays c =
    let slots = c.slots.ensures ∙ ap (λ n. get_or c.self.inside.table.slots n []) c.in-Some.ensures.0 in
    plays_there c.self.inside.table c.args.fact.now c.tx-tx.result.now c.slots.result.now _
    c.tx-tx.ensures.value slots c.if-not-plays.ensures
