use Rattle.std.specs.List.Sorted.{IsPermutation}
use Rattle.branch_table.proofs.sorting.turn.Given as goal

abbrev pub invariant-loop : goal.invariant-loop
invariant-loop l = IsPermutation l.initial.rows.items l.rows.items
