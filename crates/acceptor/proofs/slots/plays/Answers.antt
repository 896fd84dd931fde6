use Rattle.std.proofs.Common.{◌∙◌, ap}
use Rattle.stable_record.specs.Facts.{fact_tx}
use Rattle.stable_record.specs.Rests.{fact_of}
use Rattle.protocol.specs.Acceptors.{plays_at_acceptor}
use Rattle.acceptor.specs.Slots.{slots_of}
use Rattle.acceptor.proofs.slots.plays.Goals as goal

pub returns : goal.returns
returns c =
    c.can_play.ensures
    ∙ (λ k. plays_at_acceptor (slots_of (c.tx.ensures.value k) c.args.slots.now) (fact_of (c.tx.ensures.value k) c.rest.result.now))
    ∙ ap (plays_at_acceptor (slots_of (fact_tx c.args.fact.now) c.args.slots.now)) c.rest.ensures.value
