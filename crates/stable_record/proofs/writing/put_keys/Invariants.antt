use Rattle.std.proofs.Common.{◌≡◌, ◌++◌, take}
use Rattle.std.specs.List.{flat_map}
use Rattle.stable_record.specs.Grammar.{touched_spelling}
use Rattle.stable_record.proofs.writing.put_keys.Given as goal

abbrev pub invariant-loop-touched : goal.invariant-loop-touched
invariant-loop-touched l = record {
  shown : l.out.items ≡ l.initial.out.items ++ flat_map touched_spelling (take l.touched-index l.keys);
}
