-- What a leader answers a client of a transaction, and what an answer says of the participants.
use Rattle.std.specs.Prelude.{◌≡◌, ◌≢◌, ◌⊎◌, ℕ, IsTrue}
use Rattle.xid.specs.Transactions.{TxParts, is_participant}
use Rattle.xid.specs.declared.transaction.Vote.TheVariants as votes
use Rattle.safety.specs.Vocabulary.{L, Request, Stands, Ask, View}
use Rattle.safety.specs.Items.{Voted}
use Rattle.safety.specs.Runs.{views_in}
use Rattle.safety.specs.Standing.{Stands as StandsIn}
use Rattle.protocol.specs.declared.events.Step.{Step}
use Rattle.protocol.specs.declared.requests.Request.TheVariants as requests
use Rattle.protocol.specs.declared.states.Standing.{Standing}
use Rattle.protocol.specs.Effects.{Config}
use Rattle.protocol.specs.Nodes.{Fault}
use Rattle.protocol.specs.TCommit.{IsReady}
use Rattle.protocol.specs.Worlds.{World, world_step}

-- a request that is answered by where a transaction stands: to commit it, or for its status
abbrev pub IsQuestion : TxParts → Request → Type 0
IsQuestion tx request = (request ≡ requests.Commit tx) ⊎ (request ≡ requests.Status tx)

-- some such request, whatever fault meets it, is answered so by leader l in a world
pub record IsAnswered (config : Config) (world : World) (l : ℕ) (tx : TxParts) (standing : Standing) : Type 0 where
  pub request : Request
  pub asks : IsQuestion tx request
  pub fault : Fault
  pub answer_is : (world_step config world (Ask (L l) request) fault).answer ≡ Stands standing

-- a step is such a request of leader l, which was answered so
pub record Tells (l : ℕ) (tx : TxParts) (standing : Standing) (step : Step) : Type 0 where
  pub request : Request
  pub asks : IsQuestion tx request
  pub event_is : step.event ≡ Ask (L l) request
  pub answer_is : step.answer ≡ Stands standing

-- a participant has stored a vote prepared, and is prepared or committed
pub record HasPrepared (config : Config) (tx : TxParts) (world : World) (q : ℕ) : Type 0 where
  pub voted : StandsIn config world (Voted q tx votes.Prepared)
  pub ready : IsReady (views_in config world tx q)

-- every participant of a transaction has prepared
abbrev pub HavePrepared : Config → TxParts → World → Type 0
HavePrepared config tx world = (q : ℕ) → IsTrue (is_participant tx q) → HasPrepared config tx world q

-- no participant of a transaction has this view of it
abbrev pub NoneIs : Config → TxParts → View → World → Type 0
NoneIs config tx view world = (q : ℕ) → IsTrue (is_participant tx q) → views_in config world tx q ≢ view
