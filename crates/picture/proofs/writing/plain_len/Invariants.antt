use Rattle.std.proofs.Common.{◌≡◌, true, take}
use Rattle.std.specs.List.{list_all}
use Rattle.picture.specs.Elements.{is_plain}
use Rattle.picture.proofs.writing.plain_len.Given as goal

abbrev pub invariant-loop-byte : goal.invariant-loop-byte
invariant-loop-byte l = (l.count ≡ l.byte-index) × (list_all is_plain (take l.byte-index l.words) ≡ true)
