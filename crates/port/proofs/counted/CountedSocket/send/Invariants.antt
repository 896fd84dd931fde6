use Rattle.std.proofs.Common.{length}
use Rattle.port.specs.Asks.{Asks}
use Rattle.port.proofs.counted.CountedSocket.send.Given as goal

-- the system was asked just that so far
abbrev pub invariant-loop : goal.invariant-loop
invariant-loop l = Asks l.fn.self l.self l.to (length l.bytes) l.reply
