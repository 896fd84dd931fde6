-- What slots and views say, fact by fact.
use Rattle.std.specs.Prelude.{◌≡◌, ◌⊎◌, ℕ, ◌≤◌, List, Some, None}
use Rattle.xid.specs.Transactions.{TxParts}
use Rattle.xid.specs.declared.transaction.Vote.{Vote}
use Rattle.ballot.specs.declared.slot.Slot.{Slot}
use Rattle.ballot.specs.Choice.{Report}
use Rattle.stable_record.specs.declared.fact.FactKind.TheVariants as stored
use Rattle.ballot.specs.Greatest.{IsIn}
use Rattle.protocol.specs.Basics.{Fact}
pub use Rattle.protocol.specs.Facts.{IsViewOf}
use Rattle.safety.specs.Standing.{IsPromised}

-- what was accepted last is the accept of the greatest ballot; nothing, where there is no accept
abbrev pub IsGreatestAccept : List Fact → TxParts → ℕ → Report → Type 0
IsGreatestAccept facts tx i None = (b : ℕ) (v : Vote) → ¬ IsIn facts (stored.Accept tx i b v)
IsGreatestAccept facts tx i (Some last) =
    IsIn facts (stored.Accept tx i last.0 last.1) × ((b : ℕ) (v : Vote) → IsIn facts (stored.Accept tx i b v) → b ≤ last.0)

-- some promise or accept has the ballot; or it is 0
abbrev pub IsJoinedBallot : List Fact → TxParts → ℕ → ℕ → Type 0
IsJoinedBallot facts tx i b = (b ≡ 0) ⊎ IsPromised facts tx i b ⊎ ((v : Vote) × IsIn facts (stored.Accept tx i b v))

-- mbal is the greatest ballot of a promise or an accept, 0 where there is none; and the report is the greatest accept
pub record IsSlot (facts : List Fact) (tx : TxParts) (i : ℕ) (s : Slot) : Type 0 where
  pub joined : IsJoinedBallot facts tx i s.mbal
  pub promised : (b : ℕ) → IsPromised facts tx i b → b ≤ s.mbal
  pub accepted : (b : ℕ) (v : Vote) → IsIn facts (stored.Accept tx i b v) → b ≤ s.mbal
  pub last : IsGreatestAccept facts tx i s.report
