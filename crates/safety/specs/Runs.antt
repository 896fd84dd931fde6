-- Runs: the worlds that a cluster can come to, and the states of a transaction in a world.
use Rattle.std.specs.Prelude.{ℕ}
use Rattle.xid.specs.Transactions.{TxParts}
use Rattle.safety.specs.Vocabulary.{R, View, Event}
use Rattle.protocol.specs.Effects.{Config}
use Rattle.protocol.specs.Facts.{view}
use Rattle.protocol.specs.Nodes.{Fault}
use Rattle.protocol.specs.Worlds.{World, opening, world_step}
use Rattle.safety.specs.Standing.{facts_at}

-- the worlds that the cluster can come to: the opening one, and what any event, with any fault, makes of one
pub data IsReachable (config : Config) : World → Type 0 where
  Opening : IsReachable config (opening config)
  After : (world : World) (event : Event) (fault : Fault) → IsReachable config world
      → IsReachable config (world_step config world event fault).world

-- where each resource manager stands in a transaction, by its facts
abbrev pub views_in : Config → World → TxParts → ℕ → View
views_in config world tx rm = view (facts_at config world (R rm)) tx
