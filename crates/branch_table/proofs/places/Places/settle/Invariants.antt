use Rattle.std.proofs.Common.{◌≡◌, ◌+◌, ◌*◌, ◌-◌, ◌<◌, ℕ, Bool, true, List, length}
use Rattle.std.specs.List.{AllByRecursion}
use Rattle.stable_record.specs.Facts.{AreAscending, IsTouched}
use Rattle.protocol.specs.Managers.{has_key}
use Rattle.protocol.specs.Tables.{with_writes}
use Rattle.branch_table.specs.Outcomes.{looks_after}
use Rattle.branch_table.specs.Parts.{hold_at, table_of, uses_by, uses_held}
use Rattle.branch_table.proofs.places.Places.settle.Given as goal

abbrev pub invariant-loop-touched : goal.invariant-loop-touched
invariant-loop-touched l = record {
  looks : l.looks ≡ looks_after l.initial.looks (2 * length l.yielded);
  count : length l.yielded + length l.touched-iterator.rest.items ≡ length l.fn.keys.items;
  rows : with_writes (table_of l.self) l.touched-iterator.rest.items ≡ with_writes (table_of l.initial.self) l.fn.keys.items;
  holds : (writes : Bool) (key : List ℕ) → uses_held writes (hold_at l.self key) - uses_by writes key l.touched-iterator.rest.items
      ≡ uses_held writes (hold_at l.initial.self key) - uses_by writes key l.fn.keys.items;
  held : (key : List ℕ) → has_key key l.touched-iterator.rest.items ≡ true → 0 < (hold_at l.self key).touched_by;
  ascending : AreAscending l.touched-iterator.rest.items;
  each : AllByRecursion IsTouched l.touched-iterator.rest.items;
}
