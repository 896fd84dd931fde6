use Rattle.std.proofs.Common.{◌≡◌, ◌+◌, ◌*◌, ◌≤◌, length, take}
use Rattle.std.specs.List.{flat_map}
use Rattle.stable_record.specs.Grammar.{touched_spelling}
use Rattle.stable_record.proofs.view_writing.len_of_keys.Given as goal

abbrev pub invariant-loop-touched : goal.invariant-loop-touched
invariant-loop-touched l = record {
  len : l.len ≡ 1 + length (flat_map touched_spelling (take l.touched-index l.keys));
  few : l.len ≤ 1 + 324 * l.touched-index;
}
