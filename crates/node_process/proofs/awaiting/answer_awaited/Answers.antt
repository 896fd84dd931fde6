use Rattle.std.proofs.Common.{◌∙◌, [], refl}
use Rattle.node_process.proofs.AwaitLemmas.{heard_next}
use Rattle.node_process.proofs.awaiting.answer_awaited.Goals as goal

pub loop-key-init : goal.loop-key-init
loop-key-init g c = record { hear = λ more is last heard. (more, heard); count = refl }

pub returns-clause-hear : goal.returns-clause-hear
returns-clause-hear g c = c.loop-key.invariant.hear [] c.loop-key.node c.loop-key.clients.seats (refl, λ key. refl)

pub loop-key-preserved : goal.loop-key-preserved
loop-key-preserved g c = record {
  hear = λ more is last heard.
      let next = heard_next c.args.now more c.loop-key.node c.answer_due.new.node is c.loop-key.clients.seats c.answer_due.new.clients.seats
      last c.in_ok-answer_due.ensures.hears heard in
      c.loop-key.invariant.hear next.0 is last next.1;
  count = c.answer_due.ensures.count ∙ c.loop-key.invariant.count;
}
