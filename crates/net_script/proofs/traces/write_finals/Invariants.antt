use Rattle.std.proofs.Common.{◌≡◌, ◌++◌, drop}
use Rattle.xid.specs.Text.{Extends}
use Rattle.net_script.specs.Traces.{final_lines}
use Rattle.net_script.proofs.traces.write_finals.Given as goal

abbrev pub invariant-loop-rm : goal.invariant-loop-rm
invariant-loop-rm l =
    (l.fn.out.items ++ final_lines 0 l.finals ≡ l.out.items ++ final_lines l.rm (drop l.rm l.finals))
    × Extends l.fn.out.items l.out.items
