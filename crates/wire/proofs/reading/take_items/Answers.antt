use Rattle.std.proofs.Common.{◌∙◌}
use Rattle.wire.proofs.TakenItems.{all_taken, none_taken}
use Rattle.wire.proofs.reading.take_items.Goals as goal

pub returns-in_err-first : goal.returns-in_err-first
returns-in_err-first g c =
    rw c.from_residual-in_err-first.ensures (none_taken g.T.Item.at c.args.bytes.now c.in_ok-count.rest.now c.in_ok-count.count
    c.in_ok-count.ensures c.if-count-eq0.false
    c.if-count-gt-MAX_BRANCHES.false c.in_err-first.ensures)

pub returns : goal.returns
returns g c =
    c.more_items.ensures
    ∙ all_taken g.T.Item.at c.args.bytes.now c.in_ok-count.rest.now c.in_ok-count.count c.in_ok-first.first
    c.in_ok-first.rest.now c.in_ok-count.ensures c.if-count-eq0.false c.if-count-gt-MAX_BRANCHES.false
    c.in_ok-first.ensures
