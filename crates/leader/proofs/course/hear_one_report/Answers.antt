use Rattle.std.proofs.Common.{[], ◌∷◌, arith}
use Rattle.std.proofs.lemmas.List.{get_or_default}
use Rattle.std.proofs.lemmas.List.Edits.{map_over_more}
use Rattle.leader.specs.Courses.{with_reports}
use Rattle.leader.proofs.course.hear_one_report.Goals as goal

pub loop-row-preserved : goal.loop-row-preserved
loop-row-preserved c =
    rw c.hear_single.ensures
    (map_over_more (with_reports c.args.acceptor (c.args.item.now ∷ [])) c.args.rows.now c.loop-row.rows c.loop-row.row-index _
    c.loop-row-test.true
    c.loop-row.invariant (get_or_default c.loop-row.rows c.loop-row.row-index _ _ (omega arith)))
