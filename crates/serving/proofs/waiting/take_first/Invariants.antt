use Rattle.std.proofs.Common.{◌≡◌, ◌<◌, ℕ, [], get_or, vec_len}
use Rattle.serving.specs.Queues.{AreLater}
use Rattle.serving.specs.Watching.{AreKept, AreSpelled, AreWithin}
use Rattle.serving.proofs.waiting.take_first.Given as goal

-- nothing of the queues so far is due
abbrev pub invariant-loop-at : goal.invariant-loop-at
invariant-loop-at l = record {
  turns : vec_len l.queues ≡ 24;
  kept : AreKept l.watched l.queues.items;
  spelled : AreSpelled l.watched;
  within : (limit : ℕ → ℕ) → AreWithin limit l.fn.queues.items → AreWithin limit l.queues.items;
  same : l.watched ≡ l.fn.watched;
  later : (other : ℕ) → other < l.at → AreLater l.now (get_or l.queues.items other []);
}
