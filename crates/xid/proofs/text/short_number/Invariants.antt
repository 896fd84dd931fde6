use Rattle.std.proofs.Common.{take}
use Rattle.xid.proofs.Digits.{AreDigits}
use Rattle.xid.proofs.text.short_number.Given as goal

abbrev pub invariant-loop-byte : goal.invariant-loop-byte
invariant-loop-byte l = AreDigits (take l.byte-index l.text) l.number
