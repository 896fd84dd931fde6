use Rattle.std.proofs.Common.{◌≡◌, drop}
use Rattle.hashing.specs.Hashing.{taken}
use Rattle.hashing.proofs.bytes.taken.Given as goal

abbrev pub invariant-loop-byte : goal.invariant-loop-byte
invariant-loop-byte l = taken l.word (drop l.byte-index l.bytes) ≡ taken l.first l.bytes
