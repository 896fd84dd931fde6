use Rattle.std.proofs.Common.{◌∙◌, arith}
use Rattle.std.proofs.lemmas.List.{length-set}
use Rattle.wire.proofs.Walks.{one_more, participant_at}
use Rattle.wire.proofs.spelled_tx.SpelledTx.managers.Goals as goal

pub loop-place-preserved : goal.loop-place-preserved
loop-place-preserved c = record {
  left = c.branch_from-branch.ensures.after;
  long = length-set c.loop-place.managers c.loop-place.place c.branch_from-branch.result.0 ∙ c.loop-place.invariant.long;
  taken = one_more c.args.self.now c.loop-place.managers c.loop-place.place c.branch_from-branch.result.0
      (omega (
        arith,
        c.loop-place.invariant.long,
        c.loop-place-test.true,
        c.count-place-end.ensures.value,
        c.count-place-end.ensures.valid.branches.few,
      ))
      c.branch_from-branch.ensures.rm c.loop-place.invariant.taken;
}

pub returns-clause-value : goal.returns-clause-value
returns-clause-value c i lt =
    participant_at c.args.self.now i _ lt
    (c.loop-place.invariant.taken i (omega (arith, lt, c.count-place-end.ensures.value, c.loop-place-test.false)))

pub returns-clause-branch : goal.returns-clause-branch
returns-clause-branch c i lt =
    c.loop-place.invariant.taken i (omega (arith, lt, c.count-place-end.ensures.value, c.loop-place-test.false))
