use Rattle.std.proofs.Common.{◌≡◌, ◌++◌, take}
use Rattle.std.specs.List.{flat_map}
use Rattle.net_script.specs.Traces.{notice_line}
use Rattle.net_script.proofs.traces.put_all_told.Given as goal

abbrev pub invariant-loop-notice : goal.invariant-loop-notice
invariant-loop-notice l = l.out.items ≡ l.fn.out.items ++ flat_map notice_line (take l.notice-index l.told)
