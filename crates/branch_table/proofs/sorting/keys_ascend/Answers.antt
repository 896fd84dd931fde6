use Rattle.std.proofs.Common.{◌≡◌, rules}
use Rattle.std.specs.Cmp.Lexicographic.{slice_cmp}
use Rattle.std.specs.Ordering.{nat_cmp, is_ge}
use Rattle.std.proofs.lemmas.Fn.{always_returns_same}
use Rattle.branch_table.proofs.InLine.{up_sorted}
use Rattle.branch_table.proofs.sorting.keys_ascend.Goals as goal

pub returns : goal.returns
returns c =
    up_sorted c.args.rows.now c.is_sorted_by.result
    (c.is_sorted_by.ensures.cases (λ one other. is_ge (slice_cmp nat_cmp other.key one.key))
    (always_returns_same _ (λ a r. r ≡ is_ge (slice_cmp nat_cmp a.1.0.now.key a.0.now.key)) _ (λ a r q k. search rules)))
