use Rattle.std.proofs.Common.{◌≡◌, ◌++◌, List, drop}
use Rattle.serving.specs.Groups.{answers_to, AreTold, Told}
use Rattle.serving.proofs.clients.Clients.tell_all.Given as goal

-- the first answers were told; what the items that are left are answered is behind them
abbrev pub invariant-loop-item : goal.invariant-loop-item
invariant-loop-item l = record {
  told : List Told;
  tells : AreTold l.fn.self.seats l.self.seats told;
  count : l.self.count ≡ l.fn.self.count;
  whole : answers_to l.items l.replies l.said ≡ told ++ answers_to (drop l.item-index l.items) l.given l.spoken;
}
