use Rattle.std.proofs.Common.{◌∙◌, Some, sym, ap}
use Rattle.protocol.specs.Branches.{row_at}
use Rattle.audit.proofs.RowLemmas.{row_found}
use Rattle.audit.proofs.rows.Rows.get.Goals as goal

pub returns-in_default : goal.returns-in_default
returns-in_default c =
    let key = c.args.key.now in
    ap (λ rows. row_at rows key) (sym c.self.view_is) ∙ row_found (λ k. k.items) key c.self.inside.values.entries
    ∙ sym c.in_default.ensures.value

pub returns : goal.returns
returns c =
    let key = c.args.key.now in
    ap (λ rows. row_at rows key) (sym c.self.view_is) ∙ row_found (λ k. k.items) key c.self.inside.values.entries
    ∙ sym c.in-Some.ensures.value ∙ ap Some (sym c.as_slice.ensures)
