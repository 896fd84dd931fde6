use Rattle.std.proofs.Common.{◌≡◌, length}
use Rattle.letter_port.specs.Outboxes.{AllGo}
use Rattle.letter_port.proofs.outbox.Outbox.flush.Given as goal

-- the letters in the places before went
abbrev pub invariant-loop-at : goal.invariant-loop-at
invariant-loop-at g l =
    (length l.self.letters.items ≡ length l.fn.self.letters.items) × AllGo g.P.Port.sent l.at l.fn.self l.self
