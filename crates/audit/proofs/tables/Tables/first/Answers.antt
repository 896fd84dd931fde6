use Rattle.std.proofs.Common.{◌∙◌, [], ◌==◌, cond, sym}
use Rattle.std.specs.List.{fold}
use Rattle.protocol.specs.Tables.{put_row}
use Rattle.audit.proofs.ListLemmas.{first_more}
use Rattle.audit.proofs.tables.Tables.first.Goals as goal

pub loop-table-preserved : goal.loop-table-preserved
loop-table-preserved c = λ rm.
    let t = c.table-item.result in
    c.in_ok-put_all.ensures.ok rm
    ∙ (λ j. cond (t.rm == rm) (fold put_row [] (c.as_slice.ensures j)) (c.loop-table.invariant rm j))
    ∙ sym (first_more c.args.tables.now c.loop-table.table-index t c.loop-table-test.true c.table-item.is rm)
