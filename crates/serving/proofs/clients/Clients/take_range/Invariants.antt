use Rattle.std.proofs.Common.{◌≡◌}
use Rattle.serving.specs.Clients.{AreUntold}
use Rattle.serving.specs.Taking.{HearsRange}
use Rattle.serving.proofs.clients.Clients.take_range.Given as goal

-- the clients before this key were looked at, and nobody was told anything
abbrev pub invariant-loop-key : goal.invariant-loop-key
invariant-loop-key l = record {
  heard : HearsRange l.terms l.from l.key l.fn.self.seats l.self.seats l.fn.items.items l.items.items;
  untold : AreUntold l.fn.self.seats l.self.seats;
  count : l.self.count ≡ l.fn.self.count;
}
