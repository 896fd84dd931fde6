use Rattle.std.proofs.Common.{◌≡◌, ◌-◌}
use Rattle.wire.specs.SpelledItems.{items_from, is_item}
use Rattle.wire.proofs.view_items.are_counted.Given as goal

abbrev pub invariant-loop : goal.invariant-loop
invariant-loop g l =
    let t = g.T.Item in
    items_from t.at (is_item t.about (t.is_below l.ballot) l.tx) t.about l.least (l.count - l.counter) l.rest
    ≡ items_from t.at (is_item t.about (t.is_below l.ballot) l.tx) t.about 0 l.count l.bytes
