use Rattle.std.proofs.Common.{◌≡◌, ◌≢◌, ℕ, [], length, get_or, vec_len}
use Rattle.serving.specs.Watching.{AreKept, AreSpelled, AreWithin}
use Rattle.serving.proofs.waiting.take_next.Given as goal

-- the places that are left in the queue
abbrev pub decreases-loop-place : goal.decreases-loop-place
decreases-loop-place l = length (get_or l.queues.items l.at [])

-- only places of this queue went, for which nothing waits
abbrev pub invariant-loop-place : goal.invariant-loop-place
invariant-loop-place l = record {
  kept : AreKept l.watched l.queues.items;
  spelled : AreSpelled l.watched;
  many : vec_len l.queues ≡ vec_len l.fn.queues;
  within : (limit : ℕ → ℕ) → AreWithin limit l.fn.queues.items → AreWithin limit l.queues.items;
  same : l.watched ≡ l.fn.watched;
  others : (other : ℕ) → other ≢ l.at → get_or l.queues.items other [] ≡ get_or l.fn.queues.items other [];
}
