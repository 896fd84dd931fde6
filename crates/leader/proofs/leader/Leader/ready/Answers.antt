use Rattle.std.proofs.Common.{◌∙◌, sym, ap}
use Rattle.stable_record.specs.declared.fact.FactKind.TheVariants.{Ballot}
use Rattle.stable_record.specs.Facts.{fact_tx}
use Rattle.stable_record.specs.Rests.{fact_of}
use Rattle.leader.specs.contracts.leader.Leader.{the_view}
use Rattle.leader.proofs.Storing.{made_ready}
use Rattle.leader.proofs.leader.Leader.ready.Goals as goal

pub returns : goal.returns
returns c = λ config number memory.
    made_ready config number memory (the_view c.self.inside) c.args.self.now c.make_ready.new.self c.tx.result.now
    c.in-Ballot.ballot c.args.fact.now c.make_ready.result c.self.view_is
    (sym c.rest.ensures.value ∙ ap (fact_of (fact_tx c.args.fact.now)) c.in-Ballot.is
    ∙ ap (λ t. Ballot t c.in-Ballot.ballot) (sym c.tx.ensures.value))
    c.make_ready.ensures.kept c.make_ready.ensures.err c.make_ready.ensures.ready
