use Rattle.std.proofs.Common.{◌≡◌, take}
use Rattle.picture.specs.Places.{address_of}
use Rattle.picture.proofs.names.address_of.Given as goal

abbrev pub invariant-loop-byte : goal.invariant-loop-byte
invariant-loop-byte l = l.address.items ≡ address_of (take l.byte-index l.path)
