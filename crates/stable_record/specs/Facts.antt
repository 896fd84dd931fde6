-- What nodes store: one fact at a time, never changed.
use Rattle.stable_record.specs.declared.fact.Act.{Act}
use Rattle.stable_record.specs.declared.fact.Touched.{Touched}
use Rattle.stable_record.specs.declared.fact.FactKind.{FactKind as Fact}
use Rattle.stable_record.specs.declared.fact.FactKind.TheVariants.{Promise, Accept, PromiseAll, Ballot, VotePrepared, VoteAborted}
use Rattle.stable_record.specs.declared.fact.FactKind.TheVariants.{Committed, Aborted}
use Rattle.std.specs.Prelude.{◌≡◌, ℕ, ◌<◌, ◌≤◌, ◌^◌, List, [], ◌∷◌, length}
use Rattle.std.specs.List.{AllByRecursion}
use Rattle.std.specs.Cmp.Lexicographic.{slice_cmp}
use Rattle.std.specs.Ordering.{nat_cmp}
use Rattle.std.specs.declared.cmp.Ordering.TheVariants.{Less}
use Rattle.xid.specs.Limits.{most_key, most_value, most_touched}
use Rattle.xid.specs.Names.{IsBytes}
use Rattle.xid.specs.Transactions.{TxParts, IsTx}
use Rattle.wire.specs.Messages.{IsBallot, IsLeaderBallot}
use Rattle.wire.specs.Versions.{version_2}

-- a key: not empty, and not too long
pub record IsKey (key : List ℕ) : Type 0 where
  pub some : 0 < length key
  pub few : length key ≤ most_key
  pub bytes : IsBytes key

-- a value: not too long
pub record IsValue (value : List ℕ) : Type 0 where
  pub few : length value ≤ most_value
  pub bytes : IsBytes value

-- a value that was put fits
abbrev pub IsAct : Act → Type 0
IsAct (Act.Put value) = IsValue value
IsAct act = Unit {0}

-- a key that fits, with an act that does
pub record IsTouched (touched : Touched) : Type 0 where
  pub key : IsKey touched.key
  pub act : IsAct touched.act

-- keys strictly ascending by their bytes
abbrev pub AreAscending : List Touched → Type 0
AreAscending [] = Unit {0}
AreAscending (first ∷ []) = Unit {0}
AreAscending (first ∷ second ∷ rest) = (slice_cmp nat_cmp first.key second.key ≡ Less) × AreAscending (second ∷ rest)

-- the touched keys of a vote
pub record AreKeys (keys : List Touched) : Type 0 where
  pub few : length keys ≤ most_touched
  pub each : AllByRecursion IsTouched keys
  pub ascending : AreAscending keys

-- the number of an instance fits its width in a record; one that its transaction doesn't name doesn't play
abbrev pub FitsWidth : ℕ → Type 0
FitsWidth instance = instance < 256 ^ version_2.rm_width

-- the facts that a record may hold
abbrev pub IsFact : Fact → Type 0
IsFact (Promise tx instance ballot) = IsTx tx × FitsWidth instance × IsBallot ballot
IsFact (Accept tx instance ballot vote) = IsTx tx × FitsWidth instance × IsBallot ballot
IsFact (Ballot tx ballot) = IsTx tx × IsLeaderBallot ballot
IsFact (VotePrepared tx keys) = IsTx tx × AreKeys keys
IsFact (VoteAborted tx) = IsTx tx
IsFact (Committed tx) = IsTx tx
IsFact (Aborted tx) = IsTx tx
IsFact (PromiseAll tx ballot) = IsTx tx × IsLeaderBallot ballot

-- the transaction that a fact is about
abbrev pub fact_tx : Fact → TxParts
fact_tx (Promise tx instance ballot) = tx
fact_tx (Accept tx instance ballot vote) = tx
fact_tx (Ballot tx ballot) = tx
fact_tx (VotePrepared tx keys) = tx
fact_tx (VoteAborted tx) = tx
fact_tx (Committed tx) = tx
fact_tx (Aborted tx) = tx
fact_tx (PromiseAll tx ballot) = tx
