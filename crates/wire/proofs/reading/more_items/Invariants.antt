use Rattle.std.proofs.Common.{◌≡◌, ◌+◌, ◌-◌, length}
use Rattle.wire.specs.Reading.{list_at}
use Rattle.wire.proofs.Loop.{with_front}
use Rattle.wire.proofs.reading.more_items.Given as goal

abbrev pub invariant-loop : goal.invariant-loop
invariant-loop g l = record {
  count : length l.all ≡ l.counter + 1;
  same :
      with_front l.all (list_at g.T.Item.at (l.count - l.counter) l.rest)
      ≡ with_front l.initial.all (list_at g.T.Item.at l.count l.bytes);
}
