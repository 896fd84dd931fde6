use Rattle.std.proofs.Common.{◌≡◌, take}
use Rattle.wire.specs.Spelled.{branches_from}
use Rattle.wire.proofs.spelled_tx.SpelledTx.to_tx.Given as goal

abbrev pub invariant-loop-i : goal.invariant-loop-i
invariant-loop-i l = record {
  left : l.rest ≡ branches_from l.self.branches l.i;
  made : l.all ≡ take l.i l.self.branches;
}
