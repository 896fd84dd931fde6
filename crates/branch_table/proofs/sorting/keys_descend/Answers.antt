use Rattle.std.proofs.Common.{◌≡◌, rules}
use Rattle.std.specs.Cmp.Lexicographic.{slice_cmp}
use Rattle.std.specs.Ordering.{nat_cmp, is_ge}
use Rattle.std.proofs.lemmas.Fn.{always_returns_same}
use Rattle.branch_table.proofs.InLine.{down_sorted}
use Rattle.branch_table.proofs.sorting.keys_descend.Goals as goal

pub returns : goal.returns
returns c =
    down_sorted c.args.rows.now c.is_sorted_by.result
    (c.is_sorted_by.ensures.cases (λ one other. is_ge (slice_cmp nat_cmp one.key other.key))
    (always_returns_same _ (λ a r. r ≡ is_ge (slice_cmp nat_cmp a.0.now.key a.1.0.now.key)) _ (λ a r q k. search rules)))
