-- What a run comes to, and what it starts from: an outcome known to a leader, ended participants, accepted votes, ballots left.
use Rattle.std.specs.Prelude.{◌≡◌, ◌⊎◌, ℕ, ◌+◌, ◌*◌, ◌^◌, ◌<◌, ◌≤◌, Bool, IsTrue}
use Rattle.xid.specs.Transactions.{TxParts, is_participant}
use Rattle.protocol.specs.declared.requests.Request.TheVariants as requests
use Rattle.protocol.specs.declared.states.Standing.TheVariants as standings
use Rattle.ballot.specs.Majority.{is_majority}
use Rattle.safety.specs.Vocabulary.{A, L, Answer, Stands, Ask, View}
use Rattle.protocol.specs.Effects.{Config}
use Rattle.protocol.specs.Facts.{slot, last_ballot}
use Rattle.protocol.specs.Nodes.{NoFault}
use Rattle.protocol.specs.Worlds.{World, world_step}
use Rattle.safety.specs.Runs.{views_in}
use Rattle.safety.specs.Items.{Vote, Accepted}
use Rattle.safety.specs.Standing.{Stands as StandsIn, facts_at}

-- what a leader answers a client that asks where a transaction stands
abbrev pub status_answer : Config → World → ℕ → TxParts → Answer
status_answer config world l tx = (world_step config world (Ask (L l) (requests.Status tx)) NoFault).answer

-- a leader has the outcome: it answers committed or aborted
abbrev pub HasOutcome : Config → ℕ → TxParts → World → Type 0
HasOutcome config l tx world =
    (status_answer config world l tx ≡ Stands standings.Committed) ⊎ (status_answer config world l tx ≡ Stands standings.Aborted)

-- every participant's view of a transaction is this one
abbrev pub HaveEnded : Config → TxParts → View → World → Type 0
HaveEnded config tx outcome world = (r : ℕ) → IsTrue (is_participant tx r) → views_in config world tx r ≡ outcome

-- an instance is accepted: in some ballot a majority of the acceptors has stored a value
pub record IsAccepted (config : Config) (world : World) (tx : TxParts) (i : ℕ) (v : Vote) : Type 0 where
  pub ballot : ℕ
  pub members : ℕ → Bool
  pub majority : IsTrue (is_majority config.acceptors members)
  pub accepted : (a : ℕ) → a < config.acceptors → IsTrue (members a) → StandsIn config world (Accepted a tx i ballot v)

-- a leader has ballots left: some number is no less than each ballot that it stored and that the acceptors of the quorum have promised
-- of the transaction, and three of the leader's turns after it there are still ballots
pub record HasBallots (config : Config) (world : World) (l : ℕ) (quorum : ℕ → Bool) (tx : TxParts) : Type 0 where
  pub most : ℕ
  pub stored : last_ballot (facts_at config world (L l)) tx ≤ most
  pub promised : (a i : ℕ) → IsTrue (quorum a) → IsTrue (is_participant tx i) → (slot (facts_at config world (A a)) tx i).mbal ≤ most
  pub left : most + 3 * config.leaders < 2 ^ 32
