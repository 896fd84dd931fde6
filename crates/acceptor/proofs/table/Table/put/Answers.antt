use Rattle.std.proofs.Common.{◌∙◌, ◌<◌, ◌++◌, ◌∷◌, [], length, sym, ap, subst}
use Rattle.acceptor.specs.SlotTables.{IsSeen, TableParts}
use Rattle.transactions.specs.Seen.{place_in}
use Rattle.acceptor.proofs.Left.{last_place, put_parts, put_table}
use Rattle.acceptor.proofs.table.Table.put.Goals as goal

pub invariant_of-self-2 : goal.invariant_of-self-2
invariant_of-self-2 c =
    let absent : ¬ (place_in c.self.inside.transactions c.args.tx.now < length c.self.inside.transactions) =
    subst (λ (t : TableParts). ¬ IsSeen t c.args.tx.now) (sym c.self.view_is) c.requires.new in
    put_table (λ slots. slots.items) c.self.inside.transactions c.insert_view.new.self c.args.tx.now c.self.inside.slots.items
    c.push_reserved.new.self.items c.in-Ok.slots absent c.in-Ok-insert_view.ensures.ok.1 (c.push_reserved.ensures.items
    ∙ ap (λ vs. vs ++ c.in-Ok.slots ∷ []) c.reserve.ensures.items)
    (ap length c.in-Ok.ensures.items ∙ c.requires.whole) c.self.invariant

pub returns-clause-ok : goal.returns-clause-ok
returns-clause-ok c =
    let absent : ¬ (place_in c.self.inside.transactions c.args.tx.now < length c.self.inside.transactions) =
    subst (λ (t : TableParts). ¬ IsSeen t c.args.tx.now) (sym c.self.view_is) c.requires.new in (
      c.in-Ok-insert_view.ensures.ok.0 ∙ last_place c.self.inside.transactions c.args.tx.now absent
          ∙ ap (λ t. length t.transactions) c.self.view_is,
      put_parts (λ slots. slots.items) c.self.inside.transactions c.insert_view.new.self c.args.tx.now c.self.inside.slots.items
          c.push_reserved.new.self.items c.in-Ok.slots absent c.in-Ok-insert_view.ensures.ok.1 (c.push_reserved.ensures.items
          ∙ ap (λ vs. vs ++ c.in-Ok.slots ∷ []) c.reserve.ensures.items) c.args.slots.now c.in-Ok.ensures.items
          ∙ ap (λ (t : TableParts). record {
            transactions = t.transactions ++ c.args.tx.now ∷ [];
            slots = t.slots ++ c.args.slots.now ∷ [];
          }) c.self.view_is,
    )
