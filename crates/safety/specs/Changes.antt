-- What an event says of the view that it changed.
use Rattle.std.specs.Prelude.{◌≡◌, ◌≢◌, ℕ, Some}
use Rattle.xid.specs.Transactions.{TxParts}
use Rattle.safety.specs.Vocabulary.{Change}
use Rattle.protocol.specs.Effects.{Config}
use Rattle.protocol.specs.Worlds.{World, StepResult}
use Rattle.safety.specs.Runs.{views_in}

-- a step says which view it changed: a view that differs afterwards is the one that it says, and the one that it says differs
pub record SaysItsChange (config : Config) (world : World) (result : StepResult) : Type 0 where
  pub only : (rm : ℕ) (tx : TxParts) → views_in config result.world tx rm ≢ views_in config world tx rm
      → result.now ≡ Some (record { rm = rm; tx = tx; view = views_in config result.world tx rm })
  pub said : (change : Change) → result.now ≡ Some change
      → (views_in config result.world change.tx change.rm ≡ change.view) × (views_in config world change.tx change.rm ≢ change.view)
