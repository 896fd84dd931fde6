use Rattle.std.proofs.lemmas.List.Sorted.{IsPermutation-trans}
use Rattle.branch_table.proofs.sorting.sorted_by_keys.Goals as goal

pub returns-clause-permutation : goal.returns-clause-permutation
returns-clause-permutation c =
    IsPermutation-trans c.args.rows.items c.by_fronts.result.items c.sorted_whole-2.result.items c.by_fronts.ensures
    c.sorted_whole-2.ensures.permutation
