use Rattle.std.proofs.Common.{rules, ◌<◌, length}
use Rattle.std.proofs.lemmas.List.Sorted.{IsPermutation-swap, IsPermutation-trans}
use Rattle.branch_table.proofs.sorting.turn.Goals as goal

pub loop-preserved : goal.loop-preserved
loop-preserved c =
    let before = c.loop.rows.items in
    let from = c.in-Some.front.now.place in
    let at_fits : c.loop.at < length before = search rules in
    let from_fits : from < length before = search rules in
    IsPermutation-trans c.args.rows.now.items before c.swap.new.self.items c.loop.invariant
    (IsPermutation-swap before c.swap.new.self.items c.loop.at from at_fits from_fits c.swap.ensures.items)
