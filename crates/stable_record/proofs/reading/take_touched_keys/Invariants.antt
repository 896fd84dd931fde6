use Rattle.std.proofs.Common.{◌≡◌, ◌-◌}
use Rattle.wire.specs.Reading.{list_at}
use Rattle.wire.proofs.Loop.{with_front}
use Rattle.stable_record.specs.Reading.{touched_at}
use Rattle.stable_record.proofs.reading.take_touched_keys.Given as goal

abbrev pub invariant-loop : goal.invariant-loop
invariant-loop l = record {
  same : with_front l.keys.items (list_at touched_at (l.count - l.counter) l.rest) ≡ list_at touched_at l.count l.bytes;
}
