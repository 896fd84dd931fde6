use Rattle.std.proofs.Common.{◌≡◌, ◌++◌}
use Rattle.wire.specs.Spelled.{branches_from}
use Rattle.net_script.proofs.SpelledText.{begun}
use Rattle.net_script.proofs.written.put_text.Given as goal

abbrev pub invariant-loop-place : goal.invariant-loop-place
invariant-loop-place l = record {
  left : l.rest ≡ branches_from l.tx.branches l.place;
  made : l.out.items ≡ l.fn.out.items ++ begun l.tx l.place;
}
