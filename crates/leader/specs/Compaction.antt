-- The facts that a leader's record holds in place of others once it is made shorter.
use Rattle.std.specs.Prelude.{◌≡◌, ◌≤◌, ℕ, nat_lt, if◌then◌else◌, true, List, [], ◌∷◌, ◌++◌, map, sum}
use Rattle.std.specs.List.{flat_map}
use Rattle.xid.specs.Transactions.{TxParts}
use Rattle.stable_record.specs.declared.entry.EntryKind.TheVariants as entries
use Rattle.stable_record.specs.declared.fact.FactKind.{FactKind as Fact}
use Rattle.stable_record.specs.Frames.{frame_length}
use Rattle.stable_record.specs.Written.{AreWritten}
use Rattle.protocol.specs.declared.nodes.NodeId.TheVariants.{L}
use Rattle.protocol.specs.Effects.{Config}
use Rattle.protocol.specs.Facts.{last_ballot}
use Rattle.protocol.specs.LeaderMemory.{LeaderMemory, StoredBallots}
use Rattle.protocol.specs.Nodes.{plays, all_play}
use Rattle.leader.specs.Leaders.{LeaderParts, StandsFor, begun_in}

-- the greatest ballot of a transaction, if it has one
abbrev pub ballot_facts : TxParts → (ballot : ℕ) → List Fact
ballot_facts tx b = if nat_lt 0 b then Fact.Ballot tx b ∷ [] else []

-- those of some transactions, in their order
abbrev pub compacted : List TxParts → StoredBallots → List Fact
compacted txs stored = flat_map (λ tx. ballot_facts tx (stored tx)) txs

-- the facts of a shorter record: the greatest ballot of each transaction, in the order of their first facts
abbrev pub shorter_facts : List Fact → List Fact
shorter_facts facts = compacted (begun_in facts) (last_ballot facts)

-- facts that a leader's record may hold in place of others: they play, and they say the same, whatever is played after them: a leader
-- that stands for the one stands for the other, the same facts play, and the shorter record is the same
pub record SaysTheSame (config : Config) (number : ℕ) (kept facts : List Fact) : Type 0 where
  pub play : all_play config (L number) [] kept ≡ true
  pub stands : (more : List Fact) (leader : LeaderParts) (memory : LeaderMemory) → StandsFor config number leader (kept ++ more) memory
      → StandsFor config number leader (facts ++ more) memory
  pub fits : (more : List Fact) (fact : Fact) → plays config (L number) (kept ++ more) fact ≡ plays config (L number) (facts ++ more) fact
  pub shorter : (more : List Fact) → shorter_facts (kept ++ more) ≡ shorter_facts (facts ++ more)

-- facts are the shorter record of others, say the same, and their frames are together no longer
pub record IsCompacted (kept : List Fact) (config : Config) (number : ℕ) (facts : List Fact) : Type 0 where
  pub list : kept ≡ shorter_facts facts
  pub same : SaysTheSame config number kept facts
  pub no_longer : sum (map frame_length kept) ≤ sum (map frame_length facts)

-- facts to keep in place of whatever plays and a leader stands for
abbrev pub Compacts : LeaderParts → (kept : List Fact) → Type 0
Compacts leader kept =
    (config : Config) (number : ℕ) (facts : List Fact) (memory : LeaderMemory) → StandsFor config number leader facts memory
    → all_play config (L number) [] facts ≡ true → IsCompacted kept config number facts

-- bytes are the frames of facts, as they are written today, and these are to be kept in place of whatever plays and a leader stands for
pub record AreShorterFrames (leader : LeaderParts) (bytes : List ℕ) : Type 0 where
  pub kept : List Fact
  pub written : AreWritten bytes (map entries.Fact kept)
  pub compacts : Compacts leader kept
