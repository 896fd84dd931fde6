use Rattle.std.proofs.Common.{List, true, false, sym, ap, ◌∙◌}
use Rattle.std.specs.List.{list_any}
use Rattle.picture.specs.declared.rows.Row.{Row}
use Rattle.picture.specs.Drawing.{settles}
use Rattle.picture.proofs.Firsts.{any_settles}
use Rattle.picture.proofs.datagrams.IndexedRows.is_settled.Goals as goal

pub returns-then-contains_key : goal.returns-then-contains_key
returns-then-contains_key c =
    let is = c.self.invariant in
    c.if-contains_key.true
    ∙ sym (any_settles c.args.number c.self.inside.rows.now _ _ true (is.taken_are c.args.number) (is.lost_are c.args.number)
    (sym c.contains_key.ensures ∙ c.if-contains_key.true))
    ∙ ap (λ (rows : List Row). list_any (settles c.args.number) rows) c.self.view_is

pub returns-else-contains_key : goal.returns-else-contains_key
returns-else-contains_key c =
    let is = c.self.invariant in
    c.contains_key-else-contains_key.ensures
    ∙ sym (any_settles c.args.number c.self.inside.rows.now _ _ false (is.taken_are c.args.number) (is.lost_are c.args.number)
    (sym c.contains_key.ensures ∙ c.if-contains_key.false))
    ∙ ap (λ (rows : List Row). list_any (settles c.args.number) rows) c.self.view_is
