use Rattle.std.proofs.Common.{◌≡◌, ◌∙◌, ◌++◌, ◌∷◌, [], ap, subst}
use Rattle.transactions.specs.Seen.{seen_with}
use Rattle.transactions.proofs.Keys.{seen_already}
use Rattle.acceptor.proofs.Rows.{saw_number, saw_seen, saw_table}
use Rattle.acceptor.proofs.table.Table.see.Goals as goal

pub invariant_of-self-2 : goal.invariant_of-self-2
invariant_of-self-2 c =
    saw_table (λ slots. slots.items) c.self.inside.transactions c.insert_view.new.self c.args.tx.now c.self.inside.slots.items
    c.push_reserved.new.self.items c.in-Ok.slots
    c.in_default.ensures c.in-Ok.ensures c.in-Ok-insert_view.ensures.ok.1 (c.push_reserved.ensures.items
    ∙ ap (λ vs. vs ++ c.in-Ok.slots ∷ []) c.reserve.ensures.items)
    c.self.invariant

pub returns-clause-number : goal.returns-clause-number
returns-clause-number c =
    c.in-Ok-insert_view.ensures.ok.0
    ∙ saw_number (λ slots. slots.items) c.self.inside.transactions c.insert_view.new.self c.args.tx.now c.self.inside.slots.items
    c.push_reserved.new.self.items c.in-Ok.slots
    c.in_default.ensures c.in-Ok.ensures c.in-Ok-insert_view.ensures.ok.1 (c.push_reserved.ensures.items
    ∙ ap (λ vs. vs ++ c.in-Ok.slots ∷ []) c.reserve.ensures.items)
    c.self.invariant

pub returns-clause-seen : goal.returns-clause-seen
returns-clause-seen c =
    saw_seen (λ slots. slots.items) c.self.inside.transactions c.insert_view.new.self c.args.tx.now c.self.inside.slots.items
    c.push_reserved.new.self.items c.in-Ok.slots
    c.in_default.ensures c.in-Ok.ensures c.in-Ok-insert_view.ensures.ok.1 (c.push_reserved.ensures.items
    ∙ ap (λ vs. vs ++ c.in-Ok.slots ∷ []) c.reserve.ensures.items)
    c.self.invariant

pub returns-in-Some-clause-transactions : goal.returns-in-Some-clause-transactions
returns-in-Some-clause-transactions c =
    subst (λ t. t.transactions ≡ seen_with t.transactions c.args.tx.now) c.self.view_is
    (seen_already c.self.inside.transactions c.args.tx.now c.in-Some.number c.in-Some.ensures)

pub returns-clause-transactions : goal.returns-clause-transactions
returns-clause-transactions c = c.in-Ok-insert_view.ensures.ok.1 ∙ ap (λ t. seen_with t.transactions c.args.tx.now) c.self.view_is
