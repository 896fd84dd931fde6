use Rattle.std.proofs.Common.{◌∙◌, get_or, length, ap, rules}
use Rattle.std.proofs.lemmas.Bool.{both_ways, true_from_ne_false}
use Rattle.std.proofs.lemmas.Iterator.Adapters.{YieldsList-from_vec}
use Rattle.std.proofs.lemmas.Iterator.Consumers.{YieldsList-turn}
use Rattle.std.proofs.lemmas.List.Folds.{list_all_at}
use Rattle.branch_table.specs.TableStates.{are_rows, is_row}
use Rattle.branch_table.proofs.places.Places.new.Goals as goal

pub put-requires-clause-row : goal.put-requires-clause-row
put-requires-clause-row c =
    let rows = c.args.rows.items in
    let at = length c.loop-row.yielded in
    let row = c.in-Some.row in
    let turn = YieldsList-turn
    (YieldsList-from_vec {s = c.into_iter-row-iterator.result} rows (search rules) (search rules)) c.loop-row.yielded
    c.loop-row.row-iterator c.loop-row.yielded_by c.next.result c.next.new.self row c.in-Some.is c.next.ensures.steps in
    ap is_row turn.1
    ∙ true_from_ne_false (is_row (get_or rows at row))
    (λ other. both_ways (are_rows rows) (list_all_at is_row rows at row turn.0 other) c.requires)
