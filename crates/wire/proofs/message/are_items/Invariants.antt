use Rattle.std.proofs.Common.{◌<◌, ◌+◌, ℕ, IsTrue}
use Rattle.std.specs.List.{slice_index_or}
use Rattle.xid.specs.Transactions.{is_participant}
use Rattle.wire.proofs.message.are_items.Given as goal

abbrev pub invariant-loop-i : goal.invariant-loop-i
invariant-loop-i g l =
    let t = g.T.Item in
    record {
      named : (k : ℕ) (d : _) → k < l.i → IsTrue (is_participant l.tx (t.about (slice_index_or l.items k d)));
      below : (k : ℕ) (d : _) → k < l.i → t.fits l.ballot (slice_index_or l.items k d);
      ascending : (k : ℕ) (d : _) → k + 1 < l.i → t.about (slice_index_or l.items k d) < t.about (slice_index_or l.items (k + 1) d);
    }
