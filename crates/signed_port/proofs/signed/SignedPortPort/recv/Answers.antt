use Rattle.std.proofs.Common.{refl, Ok, Some, take}
use Rattle.signed_port.proofs.Refusing.{is_failed, is_dropped, is_given}
use Rattle.signed_port.proofs.signed.SignedPortPort.recv.Goals as goal

pub returns-in-Err-clause-step : goal.returns-in-Err-clause-step
returns-in-Err-clause-step g c =
    is_failed g.C.Carrier.received c.args.self.now c.count.new.self c.recv.new.self c.in-Err.field-0 c.count.result
    c.in-Err.ensures.step c.count.ensures.fault c.count.ensures.same

pub returns-in-None-clause-step : goal.returns-in-None-clause-step
returns-in-None-clause-step g c =
    is_dropped g.C.Carrier.received c.args.self.now c.count_dropped.new.self c.recv.new.self
    (take c.in-Ok-Some.len c.recv.new.buffer) c.count_dropped.result
    (rw c.in-Ok-Some.field-0-is at c.in-Ok-Some.ensures.step) c.count_dropped.ensures.fault c.in-None.ensures.none
    c.count_dropped.ensures.same

pub returns-in-Some-clause-step : goal.returns-in-Some-clause-step
returns-in-Some-clause-step g c = record {
  signer = refl;
  faults = refl;
  carried = Ok (Some (take c.in-Ok-Some.len c.recv.new.buffer));
  received = rw c.in-Ok-Some.field-0-is at c.in-Ok-Some.ensures.step;
  checks = is_given c.args.self.now.signer.key.block c.args.self.now.signer.digest c.args.self.now.signer.who c.recv.new.buffer
      c.in-Some.body.now (take c.copy.result c.copy.new.buffer) c.in-Ok-Some.len
      (rw c.in-Ok-Some.field-0-is at c.in-Ok-Some.ensures.within) c.in-Some.ensures.some c.in-Some.ensures.length c.copy.ensures.front;
  dropped = refl;
}
