use Rattle.std.proofs.Common.{◌≡◌, ◌-◌, drop, get_or, not}
use Rattle.std.specs.Prelude.{◌&&◌, ◌==◌}
use Rattle.net_script.specs.TraceLines.{is_tidy, is_tidy_after}
use Rattle.net_script.proofs.trace_lines.is_tidy.Given as goal

-- the spaces up to a place stand so that the line may be tidy, or not
abbrev pub invariant-loop-i : goal.invariant-loop-i
invariant-loop-i l =
    is_tidy l.line ≡ not (get_or l.line 0 0 == 32) && (not l.doubled && is_tidy_after (get_or l.line (l.i - 1) 0 == 32) (drop l.i l.line))
