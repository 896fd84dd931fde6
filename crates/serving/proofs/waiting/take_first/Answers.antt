use Rattle.std.proofs.Common.{◌<◌, ℕ, length, arith}
use Rattle.serving.proofs.WatchLemmas.{all_later}
use Rattle.serving.proofs.waiting.take_first.Goals as goal

pub returns-clause-none : goal.returns-clause-none
returns-clause-none c = (
  all_later c.loop-at.watched c.loop-at.queues.items c.args.now c.loop-at.invariant.kept
      (λ (at : ℕ) below.
      let few : at < length c.loop-at.queues.items = below in
      c.loop-at.invariant.later at (omega (arith, few, c.loop-at.invariant.turns, c.loop-at.queues.ok.0, c.loop-at-test.false))),
  c.loop-at.invariant.same,
)
