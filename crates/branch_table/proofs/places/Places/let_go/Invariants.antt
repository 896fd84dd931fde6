use Rattle.std.proofs.Common.{◌≡◌, ◌*◌, ◌-◌, ℕ, Bool, List, drop}
use Rattle.branch_table.specs.Outcomes.{looks_after}
use Rattle.branch_table.specs.Parts.{hold_at, table_of, uses_by, uses_held}
use Rattle.branch_table.proofs.places.Places.let_go.Given as goal

abbrev pub invariant-loop-touched : goal.invariant-loop-touched
invariant-loop-touched l = record {
  looks : l.looks ≡ looks_after l.initial.looks (2 * l.touched-index);
  rows : table_of l.self ≡ table_of l.initial.self;
  holds : (writes : Bool) (key : List ℕ) → uses_held writes (hold_at l.self key) - uses_by writes key (drop l.touched-index l.keys)
      ≡ uses_held writes (hold_at l.initial.self key) - uses_by writes key l.keys;
}
