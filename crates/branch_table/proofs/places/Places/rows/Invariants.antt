use Rattle.std.proofs.Common.{◌≡◌, ◌++◌, map}
use Rattle.branch_table.specs.Parts.{rows_in}
use Rattle.branch_table.proofs.places.Places.rows.Given as goal

abbrev pub invariant-loop-key : goal.invariant-loop-key
invariant-loop-key l = l.rows.items ++ rows_in (map (λ entry. (entry.0.items, entry.1)) l.key-iterator) ≡ rows_in l.self
