-- What contracts see of an acceptor, and which machine states it stands for.
use Rattle.std.specs.Prelude.{◌≡◌, ℕ, ◌<◌, Bool, true, List, [], IfSome}
use Rattle.xid.specs.Transactions.{TxParts}
use Rattle.stable_record.specs.declared.fact.FactKind.{FactKind as Fact}
use Rattle.stable_record.specs.Facts.{fact_tx}
use Rattle.transactions.specs.Seen.{first_seen}
use Rattle.protocol.specs.declared.decisions.Decision.{Decision}
use Rattle.protocol.specs.declared.nodes.NodeId.TheVariants.{A}
use Rattle.protocol.specs.Facts.{slot}
use Rattle.protocol.specs.Acceptors.{Slots, plays_at_acceptor}
use Rattle.protocol.specs.Effects.{Config, Effect, decision_of}
use Rattle.protocol.specs.Nodes.{all_play}
use Rattle.stable_record.specs.Parts.{Part}
use Rattle.acceptor.specs.SlotTables.{TableParts, IsSeen, slot_in}

-- the transactions of facts, in the order of their first facts
abbrev pub begun_in : List Fact → List TxParts
begun_in facts = first_seen fact_tx facts

-- which acceptor it is, among how many leaders, whether the cluster is bundled, and the slots that it keeps; the transactions of which a
-- fact was played, in the order of their first facts; and for how many more of these there is room without memory
pub record AcceptorParts : Type 0 where
  pub number : ℕ
  pub leaders : ℕ
  pub bundled : Bool
  pub table : TableParts
  pub begun : List TxParts
  pub room : ℕ

-- an acceptor is this one of a cluster, each of its slots is what the facts say, which play, and their transactions have begun in the
-- order of their first facts
pub record StandsFor (config : Config) (number : ℕ) (acceptor : AcceptorParts) (facts : List Fact) : Type 0 where
  pub number_is : acceptor.number ≡ number
  pub leaders_are : acceptor.leaders ≡ config.leaders
  pub bundled_is : acceptor.bundled ≡ config.bundled
  pub slots_are : (tx : TxParts) (i : ℕ) → slot_in acceptor.table tx i ≡ slot facts tx i
  pub played : all_play config (A number) [] facts ≡ true
  pub begun_are : acceptor.begun ≡ begun_in facts

-- to play a fact takes no memory: its transaction was seen, and there is room for one more that begins
abbrev pub IsReadyFor : AcceptorParts → Fact → Type 0
IsReadyFor acceptor fact = IsSeen acceptor.table (fact_tx fact) × (0 < acceptor.room)

-- acceptor `number` of a cluster as a part of a node
abbrev pub acceptor_part : (config : Config) (number : ℕ) → Part AcceptorParts
acceptor_part config number = record {
  StandsFor = StandsFor config number;
  plays = λ facts fact. plays_at_acceptor (slot facts) fact;
  IsReadyFor = IsReadyFor;
}

-- a rule's decision, and a fact of it plays
pub record IsDecision (decision : Decision) (effect : Effect (Unit {0})) (slots : Slots) : Type 0 where
  pub effect_is : decision ≡ decision_of effect
  pub plays : IfSome decision.fact (λ fact. plays_at_acceptor slots fact ≡ true)

-- what a rule decides, for whatever the acceptor stands for
abbrev pub Decides : AcceptorParts → Decision → (Config → (acceptor : ℕ) → Slots → Effect (Unit {0})) → Type 0
Decides acceptor decision rule =
    (config : Config) (number : ℕ) (facts : List Fact) → StandsFor config number acceptor facts
    → IsDecision decision (rule config number (slot facts)) (slot facts)
