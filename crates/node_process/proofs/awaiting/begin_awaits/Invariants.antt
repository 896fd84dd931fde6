use Rattle.std.proofs.Common.{◌≡◌, drop}
use Rattle.slab.specs.Slab.{Slab}
use Rattle.serving.specs.Clients.{AreUntold, ClientParts}
use Rattle.serving.specs.Happenings.{AwaitsBegin}
use Rattle.node_process.proofs.awaiting.begin_awaits.Given as goal

-- where those that are left begin too, all do; nobody was told anything, and no client came
abbrev pub invariant-loop-item : goal.invariant-loop-item
invariant-loop-item l = record {
  begins : (last : Slab ClientParts) → AwaitsBegin l.who l.until (drop l.item-index l.items) l.clients.seats last
      → AwaitsBegin l.who l.until l.items l.fn.clients.seats last;
  untold : AreUntold l.fn.clients.seats l.clients.seats;
  count : l.clients.count ≡ l.fn.clients.count;
}
