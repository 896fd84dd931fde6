use Rattle.std.proofs.Common.{refl}
use Rattle.letter_port.proofs.Emptying.{ready}
use Rattle.letter_port.proofs.Raised.{raised}
use Rattle.letter_port.proofs.letter_port.LetterPort.raise.Goals as goal

pub invariant_of-self : goal.invariant_of-self
invariant_of-self g c = ready g.P.Port.sent c.raise-result.new.port c.flush.new.self c.raise-result.new.port.complete c.flush.ensures

pub returns-clause-raises : goal.returns-clause-raises
returns-clause-raises g c =
    raised g.P.Port.sent c.args.floor.now c.args.member.now.floored.node.who c.args.member.now c.raise-result.new.member
    c.self.inside.outbox
    c.raise-result.new.port c.flush.new.self c.args.self.now _ _ c.raise-result.result c.self.view_is refl refl refl refl c.self.invariant
    c.raise-result.ensures c.flush.ensures
