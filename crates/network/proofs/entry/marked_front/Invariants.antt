use Rattle.std.proofs.Common.{length, ◌-◌, ◌≤◌}
use Rattle.std.specs.List.{prefix_len}
use Rattle.network.proofs.entry.marked_front.Given as goal

-- so many are marked at the front, at least
abbrev pub invariant-loop-front : goal.invariant-loop-front
invariant-loop-front l = l.front ≤ prefix_len (λ e. e.marked) l.entries

abbrev pub decreases-loop-front : goal.decreases-loop-front
decreases-loop-front l = length l.entries - l.front
