-- What the port in memory makes of receives, where it carries another port's datagrams.
use Rattle.std.specs.Prelude.{◌≡◌, ◌==◌, ◌-◌, ℕ, List, [], ◌∷◌, take, Option, Some, None, Result, Ok, Err, is_err}
use Rattle.xid.specs.declared.refusals.Refusal.{Refusal}
use Rattle.port.specs.declared.fake.FakePort.{FakePort}
use Rattle.port.specs.Ports.{faults_after}
use Rattle.signed_port.specs.declared.carrier.TheConstants.{MAX_CARRIED}

-- the first letter that was waiting was taken, as far as a buffer reaches; without one there was none; a failure leaves them
abbrev pub Carries : (old new : List (List ℕ)) → Result (Option (List ℕ)) Refusal → Type 0
Carries old new (Ok None) = (old ≡ []) × (new ≡ [])
Carries old new (Ok (Some bytes)) = (first : List ℕ) × (old ≡ first ∷ new) × (bytes ≡ take MAX_CARRIED first)
Carries old new (Err refusal) = new ≡ old

-- a receive takes of what was waiting, and leaves what has gone. It is counted as a call, and fails where it is the one that shall
pub record FakeCarried (old new : FakePort) (taken : Result (Option (List ℕ)) Refusal) : Type 0 where
  pub takes : Carries old.waiting.items new.waiting.items taken
  pub gone : new.gone.items ≡ old.gone.items
  pub left : new.left ≡ old.left - 1
  pub due : is_err taken ≡ (old.left == 1)
  pub faults : new.faults ≡ faults_after old.faults taken
