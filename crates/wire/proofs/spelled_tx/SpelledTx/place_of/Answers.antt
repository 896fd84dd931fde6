use Rattle.std.proofs.Common.{[], sym, ◌∙◌, arith}
use Rattle.std.proofs.lemmas.Bool.{eq-eqb}
use Rattle.std.proofs.lemmas.List.Sums.{position_or_len_is}
use Rattle.xid.specs.Transactions.{BranchParts, is_at}
use Rattle.wire.proofs.Walks.{none_yet}
use Rattle.wire.proofs.spelled_tx.SpelledTx.place_of.Goals as goal

abbrev blank : BranchParts
blank = record { rm = 0; bqual = [] }

pub returns-then-branch-rm-clause-value : goal.returns-then-branch-rm-clause-value
returns-then-branch-rm-clause-value c =
    sym (position_or_len_is (is_at c.args.rm) c.args.self.now.branches c.loop-place.place blank
    (omega (arith, c.loop-place-test.true, c.count-count.ensures.value)) c.loop-place.invariant.none
    (λ _. eq-eqb _ c.args.rm (sym c.branch_from-branch.ensures.rm ∙ c.if-branch-rm.true)))

pub loop-place-preserved : goal.loop-place-preserved
loop-place-preserved c = record {
  left = c.branch_from-branch.ensures.after;
  none = none_yet c.args.self.now.branches c.loop-place.place c.args.rm blank
      (λ e. c.if-branch-rm.false (c.branch_from-branch.ensures.rm ∙ e)) c.loop-place.invariant.none;
}

pub returns-clause-value : goal.returns-clause-value
returns-clause-value c =
    c.count-count.ensures.value
    ∙ sym (position_or_len_is (is_at c.args.rm) c.args.self.now.branches _ blank (omega arith)
    (λ k lt. c.loop-place.invariant.none k (omega (arith, lt, c.count-count.ensures.value, c.loop-place-test.false)))
    (λ lt. absurd (omega (arith, lt))))
