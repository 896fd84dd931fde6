use Rattle.std.proofs.lemmas.List.Sorted.{IsPermutation-trans}
use Rattle.branch_table.proofs.sorting.arranged.Goals as goal

pub loop-place-preserved : goal.loop-place-preserved
loop-place-preserved c =
    IsPermutation-trans c.args.rows.items c.loop-place.rows.items c.turn.new.rows.items c.loop-place.invariant c.turn.ensures
