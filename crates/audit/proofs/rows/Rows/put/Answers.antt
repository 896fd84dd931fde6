use Rattle.std.proofs.Common.{◌∙◌, ap}
use Rattle.audit.specs.Books.{rows_in}
use Rattle.protocol.specs.Tables.{put_row}
use Rattle.audit.proofs.RowLemmas.{row_put}
use Rattle.audit.proofs.rows.Rows.put.Goals as goal

pub returns-clause-ok : goal.returns-clause-ok
returns-clause-ok c =
    ap (rows_in (λ k. k.items)) c.in_ok-insert.ensures.entries
    ∙ row_put (λ k. k.items) c.in_ok-key.key c.in_ok-value.value c.self.inside.values.entries
    ∙ (λ j. put_row (c.self.view_is j) (record { key = c.in_ok-key.ensures.items j; value = c.in_ok-value.ensures.ok j }))
