use Rattle.std.specs.List.Sorted.{IsPermutation}
use Rattle.branch_table.proofs.sorting.arranged.Given as goal

abbrev pub invariant-loop-place : goal.invariant-loop-place
invariant-loop-place l = IsPermutation l.initial.rows.items l.rows.items
