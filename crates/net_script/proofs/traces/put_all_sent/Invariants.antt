use Rattle.std.proofs.Common.{◌≡◌, ◌++◌, take}
use Rattle.std.specs.List.{flat_map}
use Rattle.net_script.specs.Traces.{sent_line}
use Rattle.net_script.proofs.traces.put_all_sent.Given as goal

abbrev pub invariant-loop-datagram : goal.invariant-loop-datagram
invariant-loop-datagram l = l.out.items ≡ l.fn.out.items ++ flat_map sent_line (take l.datagram-index l.sent)
