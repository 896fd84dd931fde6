use Rattle.std.proofs.Common.{take}
use Rattle.picture.specs.Datagrams.{AreFirst}
use Rattle.picture.proofs.datagrams.first_rows.Given as goal

abbrev pub invariant-loop-row : goal.invariant-loop-row
invariant-loop-row l = AreFirst l.role (take l.row-index l.rows) l.firsts
