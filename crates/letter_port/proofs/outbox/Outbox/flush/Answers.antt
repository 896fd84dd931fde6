use Rattle.std.proofs.Common.{◌≡◌, ◌∙◌, suc, ◌+◌, length, ap, subst, arith}
use Rattle.std.proofs.lemmas.List.{length-set}
use Rattle.letter_port.specs.Outboxes.{AllGo}
use Rattle.letter_port.proofs.outbox.Outbox.flush.Goals as goal

pub loop-at-preserved : goal.loop-at-preserved
loop-at-preserved g c = (
  ap length c.dispatch.ensures.letters ∙ length-set c.loop-at.self.letters.items c.loop-at.at _ ∙ c.loop-at.invariant.0,
  (let up : suc c.loop-at.at ≡ c.loop-at.at + 1 = omega arith in
      subst (λ n. AllGo g.P.Port.sent n c.args.self.now c.dispatch.new.self) up
      (c.loop-at.self, c.loop-at.invariant.1, c.dispatch.ensures)),
)
