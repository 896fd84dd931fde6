-- Rules look at what is stored of their own transaction alone.
-- Needed by Kept.Playing; crates floors and forgetting.
use Rattle.std.proofs.Common.{◌≡◌, ℕ, Bool, false, List, Option, Some, None, refl}
use Rattle.std.specs.Option.{option_map_or}
use Rattle.xid.specs.Names.{XidParts}
use Rattle.xid.specs.Transactions.{TxParts}
use Rattle.xid.specs.declared.transaction.Vote.{Vote}
use Rattle.wire.specs.declared.message.Kind.TheVariants as kinds
use Rattle.stable_record.specs.declared.fact.FactKind.TheVariants as stored
use Rattle.protocol.specs.Basics.{Kind, message_tx, Fact, fact_tx}
use Rattle.protocol.specs.Vocabulary.{View}
use Rattle.protocol.specs.Acceptors.{Slots, on_acceptor_message, plays_at_acceptor}
use Rattle.protocol.specs.Effects.{Config}
use Rattle.protocol.specs.Facts.{Bound}
use Rattle.protocol.specs.LeaderMemory.{LeaderMemory, StoredBallots}
use Rattle.protocol.specs.Leaders.{on_leader_message, plays_at_leader}
use Rattle.protocol.specs.Managers.{Branch, StoredVotes, on_manager_message}

-- ---- messages

-- what an acceptor does on a message looks at the slots of its transaction alone
pub acceptor_local : (config : Config) (a : ℕ) (slots : Slots) (m : Kind)
    → on_acceptor_message config a slots m ≡ on_acceptor_message config a (λ tx. slots (message_tx m)) m
acceptor_local config a slots (kinds.P1a tx i b) = refl
acceptor_local config a slots (kinds.B1a tx b) = refl
acceptor_local config a slots (kinds.P2a tx i b v) = refl
acceptor_local config a slots m = refl

-- what a leader does on one looks at its ballot alone
pub leader_local : (config : Config) (ballots : StoredBallots) (memory : LeaderMemory) (m : Kind)
    → on_leader_message config ballots memory m ≡ on_leader_message config (λ tx. ballots (message_tx m)) memory m
leader_local config ballots memory (kinds.P1b tx i b report a) = refl
leader_local config ballots memory (kinds.B1b tx b a reports) = refl
leader_local config ballots memory (kinds.P2b tx i b v a) = refl
leader_local config ballots memory (kinds.B2b tx a accepts) = refl
leader_local config ballots memory (kinds.Ask tx rm) = refl
leader_local config ballots memory m = refl

-- what is stored of one transaction and one name
abbrev pub votes_on : Option Vote → Bool → View → Bool → List Bound → StoredVotes
votes_on vote ended shown spent bound = record {
  vote = λ tx. vote;
  is_ended = λ tx. ended;
  view = λ tx. shown;
  is_spent = λ x. spent;
  bound = bound;
}

-- the votes that are stored of one transaction and of one name
abbrev pub votes_at : StoredVotes → TxParts → Option XidParts → StoredVotes
votes_at all tx name = votes_on (all.vote tx) (all.is_ended tx) (all.view tx) (option_map_or all.is_spent name false) all.bound

-- what a resource manager does on a message looks at these votes alone
pub manager_local : (rm : ℕ) (all : StoredVotes) (branches : List Branch) (name : Option XidParts) (m : Kind)
    → on_manager_message rm all branches name m ≡ on_manager_message rm (votes_at all (message_tx m) name) branches name m
manager_local rm all branches (Some x) (kinds.Prepare tx) = refl
manager_local rm all branches (Some x) (kinds.Commit tx) = refl
manager_local rm all branches (Some x) (kinds.Abort tx) = refl
manager_local rm all branches (Some x) m = refl
manager_local rm all branches None m = refl

-- ---- facts

-- whether a fact plays at an acceptor is told by the slots of its transaction
pub acceptor_play : (slots : Slots) (f : Fact) → plays_at_acceptor slots f ≡ plays_at_acceptor (λ tx. slots (fact_tx f)) f
acceptor_play slots (stored.Promise tx i b) = refl
acceptor_play slots (stored.Accept tx i b v) = refl
acceptor_play slots (stored.PromiseAll tx b) = refl
acceptor_play slots f = refl

-- and at a leader, by its ballot
pub leader_play : (leaders l : ℕ) (ballots : StoredBallots) (f : Fact)
    → plays_at_leader leaders l ballots f ≡ plays_at_leader leaders l (λ tx. ballots (fact_tx f)) f
leader_play leaders l ballots (stored.Ballot tx b) = refl
leader_play leaders l ballots f = refl
