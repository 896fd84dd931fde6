use Rattle.std.proofs.Common.{◌≡◌, take}
use Rattle.picture.specs.Rows.{with_outcome}
use Rattle.picture.proofs.rows.push_outcome.Given as goal

abbrev pub invariant-loop-datagram : goal.invariant-loop-datagram
invariant-loop-datagram l = l.rows.items ≡ with_outcome l.first l.several l.fn.rows.items l.now (take l.datagram-index l.sent)
