use Rattle.std.proofs.Common.{◌∙◌, not, ap}
use Rattle.std.specs.Prelude.{filter}
use Rattle.std.specs.Str.{bytes_eq}
use Rattle.audit.specs.Books.{rows_in}
use Rattle.audit.proofs.RowLemmas.{row_removed}
use Rattle.audit.proofs.rows.Rows.delete.Goals as goal

pub returns : goal.returns
returns c =
    let key = c.args.key.now in
    ap (rows_in (λ k. k.items)) c.remove.ensures.entries
    ∙ row_removed (λ k. k.items) key c.self.inside.values.entries c.len.ensures.ordered
    ∙ ap (filter (λ row. not (bytes_eq row.key key))) c.self.view_is
