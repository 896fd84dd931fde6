use Rattle.std.proofs.Common.{◌≡◌, ◌∙◌, true, length, map, [], sym, ap, subst, arith}
use Rattle.std.proofs.lemmas.List.{get_or-map, length-map, with_items_is}
use Rattle.std.specs.Vec.{with_items}
use Rattle.stable_record.specs.Facts.{fact_tx}
use Rattle.transactions.specs.Seen.{place_in}
use Rattle.protocol.specs.Acceptors.{plays_at_acceptor}
use Rattle.acceptor.specs.Slots.{slots_after, after_fact}
use Rattle.acceptor.specs.SlotTables.{IsSeen, slot_in}
use Rattle.acceptor.proofs.Played.{whole_after}
use Rattle.acceptor.proofs.Rows.{wrote_table, wrote_slots}
use Rattle.acceptor.proofs.table.Table.change.Goals as goal

pub invariant_of-self : goal.invariant_of-self
invariant_of-self c =
    let number = c.requires.number ∙ ap (λ t. place_in t.transactions (fact_tx c.args.fact.now)) (sym c.self.view_is) in
    let seen = subst (λ t. IsSeen t (fact_tx c.args.fact.now)) (sym c.self.view_is) c.requires.seen in
    let len : length (map (λ slots. slots.items) c.self.inside.slots.items) ≡ length c.self.inside.slots.items =
    length-map c.self.inside.slots.items (λ slots. slots.items) in
    let was = ap (λ slots. slots.items) c.index_mut.ensures.value
    ∙ sym (get_or-map (λ slots. slots.items) c.self.inside.slots.items c.args.number c.index_mut.result.now [] (omega
    (arith, len, number, seen, c.self.invariant.rows))) in
    wrote_table (λ slots. slots.items) c.self.inside.transactions c.self.inside.slots.items c.args.number c.args.fact.now
    c.index_mut.result.now
    (with_items c.index_mut.result.now c.change.new.slots) number seen c.self.invariant was
    (with_items_is c.index_mut.result.now c.change.new.slots
    (ap length c.change.ensures ∙ whole_after (fact_tx c.args.fact.now) c.deref_mut.result.now c.args.fact.now ∙ c.deref_mut.ensures.len)
    ∙ c.change.ensures ∙ ap (λ slots. slots_after (fact_tx c.args.fact.now) slots c.args.fact.now) c.deref_mut.ensures.value)

pub returns-clause-slots : goal.returns-clause-slots
returns-clause-slots c =
    let number = c.requires.number ∙ ap (λ t. place_in t.transactions (fact_tx c.args.fact.now)) (sym c.self.view_is) in
    let seen = subst (λ t. IsSeen t (fact_tx c.args.fact.now)) (sym c.self.view_is) c.requires.seen in
    let plays = subst (λ t. plays_at_acceptor (slot_in t) c.args.fact.now ≡ true) (sym c.self.view_is) c.requires.plays in
    let len : length (map (λ slots. slots.items) c.self.inside.slots.items) ≡ length c.self.inside.slots.items =
    length-map c.self.inside.slots.items (λ slots. slots.items) in
    let was = ap (λ slots. slots.items) c.index_mut.ensures.value
    ∙ sym (get_or-map (λ slots. slots.items) c.self.inside.slots.items c.args.number c.index_mut.result.now [] (omega
    (arith, len, number, seen, c.self.invariant.rows))) in
    λ other i.
    wrote_slots (λ slots. slots.items) c.self.inside.transactions c.self.inside.slots.items c.args.number c.args.fact.now
    c.index_mut.result.now
    (with_items c.index_mut.result.now c.change.new.slots) number seen c.self.invariant was
    (with_items_is c.index_mut.result.now c.change.new.slots
    (ap length c.change.ensures ∙ whole_after (fact_tx c.args.fact.now) c.deref_mut.result.now c.args.fact.now ∙ c.deref_mut.ensures.len)
    ∙ c.change.ensures ∙ ap (λ slots. slots_after (fact_tx c.args.fact.now) slots c.args.fact.now) c.deref_mut.ensures.value) plays other i
    ∙ ap (λ t. after_fact other i (slot_in t other i) c.args.fact.now) c.self.view_is
