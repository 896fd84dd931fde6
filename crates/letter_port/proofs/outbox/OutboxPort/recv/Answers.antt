use Rattle.std.proofs.Common.{Err, refl, ap, subst, sym}
use Rattle.letter_port.specs.declared.outbox.Outbox.{Outbox}
use Rattle.letter_port.specs.Outboxes.{OutboxReceived}
use Rattle.letter_port.proofs.outbox.OutboxPort.recv.Goals as goal

pub returns-in-Err-clause-step : goal.returns-in-Err-clause-step
returns-in-Err-clause-step g c =
    subst (λ (o : Outbox g.row.P.Denot). OutboxReceived g.P.Port.received c.args.self.now o (Err c.count.result)) (sym c.count.ensures.same)
    (record {
      sizes = refl;
      letters = refl;
      faults = refl;
      came = Err c.in-Err.field-0;
      received = c.in-Err.ensures.step;
      gives = ap Err c.count.ensures.fault;
    })
