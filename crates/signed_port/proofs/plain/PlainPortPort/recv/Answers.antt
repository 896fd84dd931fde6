use Rattle.signed_port.proofs.Refusing.{is_plain_failed}
use Rattle.signed_port.proofs.plain.PlainPortPort.recv.Goals as goal

pub returns-in-Err-clause-step : goal.returns-in-Err-clause-step
returns-in-Err-clause-step g c =
    is_plain_failed g.C.Carrier.received c.args.self.now c.count.new.self c.recv.new.self c.in-Err.field-0 c.count.result
    c.in-Err.ensures.step c.count.ensures.fault c.count.ensures.same
