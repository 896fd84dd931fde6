use Rattle.branch_table.proofs.sorting.+order.Given as goal

abbrev pub decreases-order : goal.decreases-order
decreases-order l = l.rounds
