use Rattle.std.proofs.Common.{◌≡◌, take}
use Rattle.std.specs.List.{fold}
use Rattle.picture.specs.Rows.{with_notice}
use Rattle.picture.proofs.rows.push_told.Given as goal

abbrev pub invariant-loop-notice : goal.invariant-loop-notice
invariant-loop-notice l = l.rows.items ≡ fold (with_notice l.first) l.fn.rows.items (take l.notice-index l.told)
