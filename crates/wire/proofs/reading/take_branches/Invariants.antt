use Rattle.std.proofs.Common.{◌≡◌, ◌-◌, length}
use Rattle.wire.specs.Versions.{version_of}
use Rattle.wire.specs.Reading.{branches_at}
use Rattle.wire.proofs.Loop.{with_front}
use Rattle.wire.proofs.reading.take_branches.Given as goal

abbrev pub invariant-loop : goal.invariant-loop
invariant-loop l = record {
  count : length l.all ≡ l.counter;
  same : with_front l.all (branches_at (version_of l.version) (l.count - l.counter) l.rest) ≡ branches_at (version_of l.version) l.count
      l.bytes;
}
