-- Two nodes of which the one has forgotten what is below a floor, and the other nothing.
use Rattle.std.specs.Prelude.{◌≡◌, ℕ, true, false, List, [], Option}
use Rattle.xid.specs.Names.{XidParts}
use Rattle.xid.specs.Transactions.{TxParts}
use Rattle.protocol.specs.Basics.{Fact}
use Rattle.safety.specs.Vocabulary.{NodeId, A, L, R}
use Rattle.protocol.specs.Effects.{Config}
use Rattle.protocol.specs.Facts.{slot, last_ballot, is_spent, bound_branches}
use Rattle.protocol.specs.Nodes.{NodeState, Outcome, all_play}
use Rattle.protocol.specs.Worlds.{change_of}
use Rattle.resource_manager.specs.Courses.{stored_in}
use Rattle.xid.specs.Places.{Place, is_below, is_xid_below}
use Rattle.protocol.specs.Kept.{kept_memory}
use Rattle.resource_manager.specs.Left.{AreAlike, rows_of}

-- a resource manager's few facts say what all say: of each transaction that isn't below a floor the same is stored, of the names that
-- aren't the same are spent, and the same branches are prepared
pub record ManagerSays (rm : ℕ) (floor : Option Place) (few all : List Fact) : Type 0 where
  pub stored_are : (tx : TxParts) → is_below floor tx ≡ false → stored_in few tx ≡ stored_in all tx
  pub spent_are : (x : XidParts) → is_xid_below floor x ≡ false → is_spent rm few x ≡ is_spent rm all x
  pub bound_are : bound_branches few ≡ bound_branches all

-- a node's few facts say of what isn't below a floor what all say
abbrev pub Says : NodeId → Option Place → (few all : List Fact) → Type 0
Says (A a) floor few all = (tx : TxParts) → is_below floor tx ≡ false → slot few tx ≡ slot all tx
Says (L l) floor few all = (tx : TxParts) → is_below floor tx ≡ false → last_ballot few tx ≡ last_ballot all tx
Says (R rm) floor few all = ManagerSays rm floor few all

-- a node that has forgotten what is below a floor, in a cluster that is alike, and one that has forgotten nothing: they are up or down
-- together, have the same tear armed, the same rows and, but for what is below, the same in memory; and their facts play
pub record StandsAbove (from config : Config) (who : NodeId) (floor : Option Place) (few all : NodeState) : Type 0 where
  pub alike : AreAlike who from config
  pub says : Says who floor few.facts all.facts
  pub rows_are : rows_of from who few.facts ≡ rows_of config who all.facts
  pub few_play : all_play from who [] few.facts ≡ true
  pub all_play_too : all_play config who [] all.facts ≡ true
  pub node_is : few ≡ record all { facts = few.facts; memory = kept_memory floor all.memory }

-- what came of the two is alike
pub record CameAlike (from config : Config) (who : NodeId) (floor : Option Place) (few all : NodeState) (little whole : Outcome) : Type 0
  where
    pub answer_is : little.answer ≡ whole.answer
    pub sends_are : little.sends ≡ whole.sends
    pub change_is : change_of who few.facts little.node.facts ≡ change_of who all.facts whole.node.facts
    pub stands : StandsAbove from config who floor little.node whole.node
