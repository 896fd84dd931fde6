use Rattle.std.proofs.Common.{◌∙◌, ◌<◌, length, sym, [], arith}
use Rattle.std.specs.Cmp.{unsigned_Decides}
use Rattle.xid.specs.Transactions.{BranchParts, is_at}
use Rattle.audit.proofs.ViewLemmas.{found_at, found_none}
use Rattle.audit.proofs.views.place_of.Goals as goal

pub returns-then-rm-clause-value : goal.returns-then-rm-clause-value
returns-then-rm-clause-value c =
    let nobody : BranchParts = record { rm = 0; bqual = [] } in
    let lt : c.loop-place.place < length c.args.tx.now.branches =
    omega (arith, c.loop-place-test.true, c.count-place-end.ensures.value) in
    found_at (is_at c.args.rm) c.args.tx.now.branches c.loop-place.place nobody lt c.loop-place.invariant
    ((unsigned_Decides _ _).1 (sym c.rm.ensures.branch ∙ c.if-rm.true))

pub returns-clause-value : goal.returns-clause-value
returns-clause-value c =
    let nobody : BranchParts = record { rm = 0; bqual = [] } in
    found_none (is_at c.args.rm) c.args.tx.now.branches nobody
    (λ k lt. c.loop-place.invariant k (omega (arith, lt, c.loop-place-test.false, c.count-place-end.ensures.value)))
