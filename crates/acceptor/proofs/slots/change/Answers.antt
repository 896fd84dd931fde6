use Rattle.std.proofs.Common.{◌∙◌, ap}
use Rattle.stable_record.specs.Facts.{fact_tx}
use Rattle.stable_record.specs.Rests.{fact_of}
use Rattle.acceptor.specs.Slots.{slots_after}
use Rattle.acceptor.proofs.slots.change.Goals as goal

pub returns : goal.returns
returns c =
    c.change_by.ensures
    ∙ (λ k. slots_after (c.tx.ensures.value k) c.args.slots.now (fact_of (c.tx.ensures.value k) c.rest.result.now))
    ∙ ap (slots_after (fact_tx c.args.fact.now) c.args.slots.now) c.rest.ensures.value
