use Rattle.std.proofs.Common.{◌∙◌, ap}
use Rattle.std.specs.Cmp.Lexicographic.{pointwise}
use Rattle.protocol.specs.Rows.{row_eq}
use Rattle.audit.specs.Books.{rows_of}
use Rattle.audit.proofs.RowTests.{reaches_here, next_right}
use Rattle.audit.proofs.tables.Tables.count_right.Goals as goal

pub returns-then-not-are_at : goal.returns-then-not-are_at
returns-then-not-are_at c =
    let rm = c.loop-rm.rm in
    let table = rows_of c.args.self.now in
    reaches_here table c.args.finals.now rm c.index-finals-rm.result c.loop-rm-test.true
    (c.if-not-are_at.ensures ∙ ap (λ rows. pointwise row_eq rows (table rm)) (c.as_slice.ensures ∙ c.index-finals-rm.is))
    c.loop-rm.invariant

pub loop-rm-preserved : goal.loop-rm-preserved
loop-rm-preserved c =
    let rm = c.loop-rm.rm in
    let table = rows_of c.args.self.now in
    next_right table c.args.finals.now rm c.index-finals-rm.result c.loop-rm-test.true
    (c.if-not-are_at.ensures ∙ ap (λ rows. pointwise row_eq rows (table rm)) (c.as_slice.ensures ∙ c.index-finals-rm.is))
    c.loop-rm.invariant
