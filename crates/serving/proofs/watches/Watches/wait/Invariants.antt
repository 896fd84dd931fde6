use Rattle.std.proofs.Common.{ℕ, ◌<◌, [], get_or}
use Rattle.std.specs.Prelude.{IfSome}
use Rattle.serving.specs.Queues.{AreSpared, EndsAt}
use Rattle.serving.proofs.watches.Watches.wait.Given as goal

-- of the queues so far nothing is due before, and a place in front of one is due then
abbrev pub invariant-loop-queue : goal.invariant-loop-queue
invariant-loop-queue l =
    ((at : ℕ) → at < l.queue-index → AreSpared l.least l.now (get_or l.self.queues.items at []))
    × IfSome l.least (λ least. EndsAt least l.now l.self.queues.items)
