use Rattle.std.proofs.Common.{refl}
use Rattle.std.specs.List.{flat_map}
use Rattle.port.specs.Calls.{datagrams_from}
use Rattle.letter_port.proofs.Emptying.{group_out, ready, seen_out}
use Rattle.letter_port.proofs.letter_port.LetterPort.call_all.Goals as goal

pub invariant_of-self-2 : goal.invariant_of-self-2
invariant_of-self-2 g c = ready g.P.Port.sent c.call_all.new.port c.flush.new.self c.call_all.new.port.complete c.flush.ensures

pub returns-clause-sends : goal.returns-clause-sends
returns-clause-sends g c =
    λ config m stands.
    seen_out g.P.Port.sent c.self.inside.outbox c.flush.new.self _ c.args.self.now _ _ c.self.view_is refl refl refl refl
    (group_out g.P.Port.sent (flat_map (datagrams_from config c.args.member.now.floored.node.who) c.call_all.new.outs)
    c.self.inside.outbox c.call_all.new.port c.flush.new.self c.self.invariant (c.in-Ok.ensures.sends config m stands) c.flush.ensures)
