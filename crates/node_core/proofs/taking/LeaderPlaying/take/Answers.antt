use Rattle.std.proofs.Common.{◌∙◌, sym, ap}
use Rattle.stable_record.specs.declared.fact.FactKind.TheVariants.{Ballot}
use Rattle.stable_record.specs.Facts.{fact_tx}
use Rattle.stable_record.specs.Rests.{fact_of}
use Rattle.node_core.proofs.Playing.{leader_takes, leader_refused}
use Rattle.node_core.proofs.taking.LeaderPlaying.take.Goals as goal

pub returns-in-Ok : goal.returns-in-Ok
returns-in-Ok c =
    leader_takes c.args.self.now c.play.new.self c.begin.new.self c.tx.result.now c.in-Ballot.ballot c.args.fact.now
    (sym c.rest.ensures.value ∙ ap (fact_of (fact_tx c.args.fact.now)) c.in-Ballot.is
    ∙ ap (λ tx. Ballot tx c.in-Ballot.ballot) (sym c.tx.ensures.value))
    c.play.result c.in-Ok.is c.play.ensures c.begin.ensures

pub returns-in-Err : goal.returns-in-Err
returns-in-Err c =
    leader_refused c.args.self.now c.play.new.self c.args.fact.now c.play.result c.in-Err.refusal c.in-Err.is c.play.ensures
