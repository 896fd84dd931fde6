use Rattle.std.proofs.Common.{◌≡◌, length, Option}
use Rattle.net_script.specs.TraceReaders.{HasRead}
use Rattle.net_script.specs.declared.values.Trace.{Trace}
use Rattle.audit.specs.Noting.{HasNoted}
use Rattle.audit.proofs.auditing.audit_text_with_hash_key.Given as goal

abbrev pub invariant-loop-judge : goal.invariant-loop-judge
invariant-loop-judge l =
    (l.reader.bytes ≡ l.bytes) × (trace : Option Trace) × HasRead l.reader trace × HasNoted l.bytes l.judge l.lines trace

abbrev pub decreases-loop-judge : goal.decreases-loop-judge
decreases-loop-judge l = length l.reader.rest
