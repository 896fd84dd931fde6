use Rattle.std.proofs.Common.{◌≡◌, ℕ, [], get_or, vec_len}
use Rattle.serving.proofs.waiting.no_queues.Given as goal

-- so many queues, and none has a place
abbrev pub invariant-loop : goal.invariant-loop
invariant-loop l = record {
  turns : vec_len l.queues ≡ l.counter;
  none : (at : ℕ) → get_or l.queues.items at [] ≡ [];
}
