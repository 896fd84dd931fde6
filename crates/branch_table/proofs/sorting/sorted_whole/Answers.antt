use Rattle.std.proofs.Common.{◌≡◌, rules}
use Rattle.std.specs.Cmp.{nat_cmp_total}
use Rattle.std.specs.Cmp.Lexicographic.{slice_cmp, lists_total}
use Rattle.std.specs.Ordering.{nat_cmp, is_lt}
use Rattle.std.proofs.lemmas.Fn.{always_returns_same}
use Rattle.std.proofs.lemmas.List.Sorted.{ranks_by}
use Rattle.protocol.specs.declared.rows.Row.{Row}
use Rattle.branch_table.proofs.sorting.sorted_whole.Goals as goal

pub returns-clause-sorted : goal.returns-clause-sorted
returns-clause-sorted c =
    c.sort_unstable_by.ensures.sorted (λ a b. is_lt (slice_cmp nat_cmp a.key b.key))
    (ranks_by (lists_total nat_cmp_total) (λ (row : Row). row.key))
    (always_returns_same _ (λ a r. is_lt r ≡ is_lt (slice_cmp nat_cmp a.0.now.key a.1.0.now.key)) _ (λ a r q k. search rules))
