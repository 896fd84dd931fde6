use Rattle.std.proofs.Common.{◌≡◌, map, take}
use Rattle.xid.specs.Transactions.{branch_of}
use Rattle.xid.proofs.branches.Branches.of.Given as goal

abbrev pub invariant-loop-rm : goal.invariant-loop-rm
invariant-loop-rm l = l.all ≡ map branch_of (take l.rm-index l.parts)
