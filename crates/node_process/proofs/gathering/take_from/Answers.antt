use Rattle.std.proofs.Common.{ℕ, Option, None, Some, Ok, Err, refl, subst, take}
use Rattle.port.specs.Ports.{taken_from}
use Rattle.letter_port.specs.LetterPorts.{LetterReceived}
use Rattle.node_process.proofs.GatherLemmas.{receives_one, takes_no_more, takes_nothing, takes_one}
use Rattle.node_process.proofs.gathering.take_from.Goals as goal

pub returns-in-Ok-None-clause-ok : goal.returns-in-Ok-None-clause-ok
returns-in-Ok-None-clause-ok g c =
    let none = takes_no_more g.P.Port.received c.args.port.now c.recv.new.self c.args.items.now.items
    (subst (λ (taken : Option ℕ). LetterReceived g.P.Port.received c.args.port.now c.recv.new.self
    (taken_from c.recv.new.buffer (Ok taken))) c.in-Ok-None.field-0-is c.in-Ok-None.ensures.step) in
    (none.0, λ _. none.1)

pub returns-in-Ok-None-clause-receives : goal.returns-in-Ok-None-clause-receives
returns-in-Ok-None-clause-receives g c =
    receives_one g.P.Port.received (Ok None) c.args.port.now c.recv.new.self
    (subst (λ (taken : Option ℕ). LetterReceived g.P.Port.received c.args.port.now c.recv.new.self
    (taken_from c.recv.new.buffer (Ok taken))) c.in-Ok-None.field-0-is c.in-Ok-None.ensures.step)

pub returns-in_ok-take_message-in-Ok-Some-clause-ok : goal.returns-in_ok-take_message-in-Ok-Some-clause-ok
returns-in_ok-take_message-in-Ok-Some-clause-ok g c = (
  takes_one g.P.Port.received (take c.in-Ok-Some.len c.recv.new.buffer) c.args.port.now c.recv.new.self c.args.items.now.items
      c.take_message.new.items.items
      (subst (λ (taken : Option ℕ). LetterReceived g.P.Port.received c.args.port.now c.recv.new.self
      (taken_from c.recv.new.buffer (Ok taken))) c.in-Ok-Some.field-0-is c.in-Ok-Some.ensures.step)
      c.in_ok-take_message-in-Ok-Some.ensures,
  λ over. absurd (cc),
)

pub returns-in_ok-take_message-in-Ok-Some-clause-receives : goal.returns-in_ok-take_message-in-Ok-Some-clause-receives
returns-in_ok-take_message-in-Ok-Some-clause-receives g c =
    receives_one g.P.Port.received (Ok (Some (take c.in-Ok-Some.len c.recv.new.buffer))) c.args.port.now c.recv.new.self
    (subst (λ (taken : Option ℕ). LetterReceived g.P.Port.received c.args.port.now c.recv.new.self
    (taken_from c.recv.new.buffer (Ok taken))) c.in-Ok-Some.field-0-is c.in-Ok-Some.ensures.step)

pub returns-in_err-take_message-in-Ok-Some-clause-receives : goal.returns-in_err-take_message-in-Ok-Some-clause-receives
returns-in_err-take_message-in-Ok-Some-clause-receives g c =
    receives_one g.P.Port.received (Ok (Some (take c.in-Ok-Some.len c.recv.new.buffer))) c.args.port.now c.recv.new.self
    (subst (λ (taken : Option ℕ). LetterReceived g.P.Port.received c.args.port.now c.recv.new.self
    (taken_from c.recv.new.buffer (Ok taken))) c.in-Ok-Some.field-0-is c.in-Ok-Some.ensures.step)

pub returns-in-Err-clause-ok : goal.returns-in-Err-clause-ok
returns-in-Err-clause-ok g c = (
  takes_nothing g.P.Port.received (Err c.in-Err.field-0) c.args.port.now c.recv.new.self c.args.items.now.items refl
      c.in-Err.ensures.step,
  λ over. absurd (cc),
)

pub returns-in-Err-clause-receives : goal.returns-in-Err-clause-receives
returns-in-Err-clause-receives g c =
    receives_one g.P.Port.received (Err c.in-Err.field-0) c.args.port.now c.recv.new.self c.in-Err.ensures.step
