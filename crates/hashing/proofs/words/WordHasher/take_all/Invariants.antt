use Rattle.std.proofs.Common.{◌≡◌, drop}
use Rattle.hashing.specs.Hashing.{with_bytes}
use Rattle.hashing.proofs.words.WordHasher.take_all.Given as goal

abbrev pub invariant-loop-byte : goal.invariant-loop-byte
invariant-loop-byte l = with_bytes l.self (drop l.byte-index l.bytes) ≡ with_bytes l.initial.self l.bytes
