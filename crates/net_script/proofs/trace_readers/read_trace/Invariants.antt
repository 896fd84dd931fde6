use Rattle.std.proofs.Common.{◌≡◌, length}
use Rattle.net_script.specs.TraceReaders.{HasRead}
use Rattle.net_script.proofs.trace_readers.read_trace.Given as goal

abbrev pub invariant-loop-trace : goal.invariant-loop-trace
invariant-loop-trace l = (l.reader.bytes ≡ l.bytes) × HasRead l.reader l.trace

abbrev pub decreases-loop-trace : goal.decreases-loop-trace
decreases-loop-trace l = length l.reader.rest
