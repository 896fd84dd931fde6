use Rattle.std.proofs.Common.{◌≡◌, ◌≤◌, false, length}
use Rattle.serving.proofs.TakeLemmas.{TakesFreely}
use Rattle.serving.proofs.taking.take_front.Given as goal

-- lines were taken from the front of the bytes, one for each place, and what is left is behind them; no line was too long
abbrev pub invariant-loop : goal.invariant-loop
invariant-loop l = record {
  taken : TakesFreely l.terms l.origin l.bytes l.left.rest.now l.fn.items.items l.items.items;
  short : l.left.is_too_long ≡ false;
  many : l.counter ≤ length l.items.items;
}
