use Rattle.std.proofs.Common.{◌≡◌, take}
use Rattle.std.specs.Prelude.{filter_map, slice_get}
use Rattle.resource_manager.specs.Open.{open_at}
use Rattle.resource_manager.proofs.manager.ResourceManager.prepared.Given as goal

abbrev pub invariant-loop-number : goal.invariant-loop-number
invariant-loop-number l =
    l.txs.items ≡ filter_map (open_at l.self) (filter_map (slice_get l.self.courses.transactions) (take l.number-index l.number-items))
