use Rattle.std.proofs.Common.{arith}
use Rattle.picture.specs.Datagrams.{has_number}
use Rattle.picture.proofs.Firsts.{first_step}
use Rattle.picture.proofs.datagrams.first_rows.Goals as goal

pub loop-row-preserved : goal.loop-row-preserved
loop-row-preserved c = λ number.
    first_step (has_number c.args.role number) c.args.rows.now c.loop-row.row-index c.row-item.result _ _ (omega arith) c.row-item.is
    (c.loop-row.invariant number) (c.in_ok-keep_first.ensures.ok number)
