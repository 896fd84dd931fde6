use Rattle.std.proofs.Common.{◌≡◌, ◌+◌, ℕ, Bool, List, drop}
use Rattle.branch_table.specs.Parts.{hold_at, table_of, uses_by, uses_held}
use Rattle.branch_table.proofs.places.Places.hold.Given as goal

abbrev pub invariant-loop-at : goal.invariant-loop-at
invariant-loop-at l = record {
  rows : table_of l.self ≡ table_of l.initial.self;
  holds : (writes : Bool) (key : List ℕ) → uses_held writes (hold_at l.self key) + uses_by writes key (drop l.at l.keys)
      ≡ uses_held writes (hold_at l.initial.self key) + uses_by writes key l.keys;
}
