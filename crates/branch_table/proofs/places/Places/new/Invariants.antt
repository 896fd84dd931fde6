use Rattle.std.proofs.Common.{◌≡◌, ℕ, List}
use Rattle.branch_table.specs.Parts.{free, hold_at, table_of}
use Rattle.branch_table.specs.TableStates.{first_table}
use Rattle.branch_table.proofs.places.Places.new.Given as goal

abbrev pub invariant-loop-row : goal.invariant-loop-row
invariant-loop-row l = record {
  rows : table_of l.places ≡ first_table l.yielded;
  free : (key : List ℕ) → hold_at l.places key ≡ free;
}
