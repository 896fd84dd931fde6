-- What a leader keeps in order, and what each of its rules hands over.
-- Needed by 9 files here; crates progress and answers.
use Rattle.std.specs.Prelude.{◌≡◌, ◌⊎◌, ℕ, ◌<◌, ◌^◌, true, IsTrue, List, Option, Some}
use Rattle.xid.specs.Transactions.{TxParts, is_participant}
use Rattle.xid.specs.declared.transaction.Vote.{Vote}
use Rattle.xid.specs.declared.transaction.Vote.TheVariants.{Prepared, Aborted}
use Rattle.wire.specs.declared.message.Kind.{Kind}
use Rattle.wire.specs.declared.message.Kind.TheVariants as kinds
use Rattle.ballot.specs.Ballots.{IsOwned}
use Rattle.ballot.specs.Choice.{Report}
use Rattle.stable_record.specs.declared.fact.FactKind.TheVariants as stored
use Rattle.protocol.specs.Basics.{Fact}
use Rattle.safety.specs.Vocabulary.{Outgoing}
use Rattle.protocol.specs.Facts.{last_ballot}
use Rattle.protocol.specs.Effects.{Config}
use Rattle.protocol.specs.PaperItems.{unbundled}
use Rattle.protocol.specs.LeaderMemory.{LeaderMemory, current, is_proposed}
use Rattle.protocol.specs.Leaders.{plays_at_leader}
use Rattle.safety.specs.Items.{Item, P1b, P2a, P2b, Commit, Abort, IsDecided, IsMajorityPick}
use Rattle.ballot.specs.Greatest.{IsIn}
use Rattle.safety.proofs.Facts.{with_fact}

-- the items that messages are
abbrev pub IsSentItem : (Sent : Kind → Type 0) → Item TxParts → Type 0
IsSentItem Sent (P1b tx i b report a) = Sent (kinds.P1b tx i b report a)
IsSentItem Sent (P2a tx i b v) = Sent (kinds.P2a tx i b v)
IsSentItem Sent (P2b tx i b v a) = Sent (kinds.P2b tx i b v a)
IsSentItem Sent (Commit tx) = Sent (kinds.Commit tx)
IsSentItem Sent (Abort tx) = Sent (kinds.Abort tx)
IsSentItem Sent fact = ⊥

-- a ballot of a leader: it is its own, stored, and the greatest that it began for the transaction
pub record IsBegunBallot (leaders l : ℕ) (facts : List Fact) (tx : TxParts) (b : ℕ) : Type 0 where
  pub owned : IsOwned leaders l b
  pub begun : IsIn facts (stored.Ballot tx b)
  pub greatest : last_ballot facts tx ≡ b

-- a leader's memory is in order with its facts and with all that was ever sent
pub record LeaderInvariant (config : Config) (l : ℕ) (facts : List Fact) (memory : LeaderMemory) (Sent : Kind → Type 0) : Type 0 where
  -- what it heard was sent; who reported is an acceptor of the cluster, and reported once
  pub heard : (m : Kind) → IsIn memory.heard m → Sent m
  pub inside : (tx : TxParts) (i b : ℕ) (report : Report) (a : ℕ) → IsIn memory.heard (kinds.P1b tx i b report a) → a < config.acceptors
  pub once : (tx : TxParts) (i b : ℕ) (x y : Report) (a : ℕ)
      → IsIn memory.heard (kinds.P1b tx i b x a) → IsIn memory.heard (kinds.P1b tx i b y a) → x ≡ y
  -- its current ballots are its own, and what was ever proposed in them is noted
  pub begun : (tx : TxParts) (b : ℕ) → current memory tx ≡ Some b → IsBegunBallot config.leaders l facts tx b
  pub noted : (tx : TxParts) (i b : ℕ) (v : Vote) → current memory tx ≡ Some b → Sent (kinds.P2a tx i b v)
      → is_proposed memory.proposed tx i b ≡ true

-- whatever was ever proposed in a leader's ballot, its record has the ballot
pub record AreProposalsBacked (leaders l : ℕ) (facts : List Fact) (Sent : Kind → Type 0) : Type 0 where
  pub backed : (tx : TxParts) (i b : ℕ) (v : Vote) → Sent (kinds.P2a tx i b v) → IsOwned leaders l b → IsIn facts (stored.Ballot tx b)

-- ---- what is handed over

-- a message is one that some of these is, bundled or not
abbrev pub IsSentBy : List Outgoing → Kind → Type 0
IsSentBy sends m = (s : Outgoing) × IsIn sends s × IsIn (unbundled s.message) m

-- what was sent, and at most these
pub record IsSentExtension (Sent : Kind → Type 0) (sends : List Outgoing) (Now : Kind → Type 0) : Type 0 where
  pub kept : (m : Kind) → Sent m → Now m
  pub only : (m : Kind) → Now m → Sent m ⊎ IsSentBy sends m

-- a fact that a leader stores: a ballot of its own, greater than every one before
pub record IsNewBallot (leaders l : ℕ) (facts : List Fact) (fact : Fact) : Type 0 where
  pub tx : TxParts
  pub ballot : ℕ
  pub is : fact ≡ stored.Ballot tx ballot
  pub owned : IsOwned leaders l ballot
  pub greater : last_ballot facts tx < ballot
  pub fits : ballot < 2 ^ 32
  pub plays : plays_at_leader leaders l (last_ballot facts) fact ≡ true

module _ (config : Config) (l : ℕ) where
  -- a proposal above ballot 0: in a current ballot, picked from what was heard, and the first of its instance in it
  pub record IsFreshProposal (facts : List Fact) (Sent : Kind → Type 0) (tx : TxParts) (i b : ℕ) (v : Vote) : Type 0 where
    pub owned : IsOwned config.leaders l b
    pub begun : IsIn facts (stored.Ballot tx b)
    pub picked : IsMajorityPick config.acceptors (IsSentItem Sent) tx i b v
    pub first : (w : Vote) → ¬ Sent (kinds.P2a tx i b w)

  -- what a leader may send, the facts being those after the event, and Sent what was sent before it
  abbrev pub MaySend : List Fact → (Sent : Kind → Type 0) → Kind → Type 0
  MaySend facts Sent (kinds.Prepare tx) = Unit {0}
  MaySend facts Sent (kinds.P1a tx i b) = IsTrue (is_participant tx i) × IsBegunBallot config.leaders l facts tx b
  MaySend facts Sent (kinds.P2a tx i b v) = IsFreshProposal facts Sent tx i b v
  MaySend facts Sent (kinds.Commit tx) = (r : ℕ) → IsTrue (is_participant tx r) → IsDecided config.acceptors (IsSentItem Sent) tx r Prepared
  MaySend facts Sent (kinds.Abort tx) = (r : ℕ) × IsTrue (is_participant tx r) × IsDecided config.acceptors (IsSentItem Sent) tx r Aborted
  MaySend facts Sent message = ⊥

  -- an event at a leader: its fact, what it sends, what it has after it, and all that is sent now
  pub record IsLeaderStep (facts : List Fact) (Sent : Kind → Type 0)
      (fact : Option Fact) (sends : List Outgoing) (after : LeaderMemory) (Now : Kind → Type 0) : Type 0 where
    pub begins : (x : Fact) → fact ≡ Some x → IsNewBallot config.leaders l facts x
    pub may_send : (m : Kind) → IsSentBy sends m → MaySend (with_fact facts fact) Sent m
    pub agree : (tx : TxParts) (i b : ℕ) (v w : Vote) → IsSentBy sends (kinds.P2a tx i b v) → IsSentBy sends (kinds.P2a tx i b w) → v ≡ w
    pub kept : LeaderInvariant config l (with_fact facts fact) after Now
