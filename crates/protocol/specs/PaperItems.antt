-- What datagrams and facts come to, as the messages and stored facts of the paper.
-- Gray and Lamport, "Consensus on Transaction Commit", ACM TODS 31(1), 2006, section 4.
use Rattle.std.specs.Prelude.{ℕ, List, [], ◌∷◌, map, Option}
use Rattle.protocol.specs.Basics.{TxParts, participants, Vote, Kind, InstanceReport, InstanceAccept, Fact}
use Rattle.protocol.specs.Vocabulary.{NodeId}

-- phase 1b of an acceptor in a ballot, for each instance that it reports
abbrev pub report_messages : TxParts → (ballot acceptor : ℕ) → List InstanceReport → List Kind
report_messages tx b a reports = map (λ item. Kind.P1b tx item.instance b item.report a) reports

-- phase 2b of an acceptor, for each instance of which it tells
abbrev pub accept_messages_of : TxParts → (acceptor : ℕ) → List InstanceAccept → List Kind
accept_messages_of tx a accepts = map (λ item. Kind.P2b tx item.instance item.ballot item.vote a) accepts

-- the paper's messages as which a datagram is read: those of a bundle's instances, or the message itself
abbrev pub unbundled : Kind → List Kind
unbundled (Kind.B1a tx b) = map (λ i. Kind.P1a tx i b) (participants tx)
unbundled (Kind.B1b tx b a reports) = report_messages tx b a reports
unbundled (Kind.B2b tx a accepts) = accept_messages_of tx a accepts
unbundled message = message ∷ []

-- what a node stores, and the messages that the argument for safety speaks of. a, l and r number acceptors, leaders and
-- resource managers, i is an instance: the number of its resource manager, b is a ballot
pub data Item (Tx : Type 0) : Type 0 where
  Promised : (a : ℕ) (tx : Tx) (i b : ℕ) → Item Tx
  Accepted : (a : ℕ) (tx : Tx) (i b : ℕ) (v : Vote) → Item Tx
  Began : (l : ℕ) (tx : Tx) (b : ℕ) → Item Tx
  Voted : (r : ℕ) (tx : Tx) (v : Vote) → Item Tx
  Committed StoredAbort : (r : ℕ) (tx : Tx) → Item Tx
  P1b : (tx : Tx) (i b : ℕ) (report : Option (ℕ × Vote)) (a : ℕ) → Item Tx
  P2a : (tx : Tx) (i b : ℕ) (v : Vote) → Item Tx
  P2b : (tx : Tx) (i b : ℕ) (v : Vote) (a : ℕ) → Item Tx
  Commit Abort : (tx : Tx) → Item Tx

-- the item that one of the paper's messages is, if the argument speaks of it
abbrev pub message_items : Kind → List (Item TxParts)
message_items (Kind.P1b tx i b report a) = P1b tx i b report a ∷ []
message_items (Kind.P2a tx i b v) = P2a tx i b v ∷ []
message_items (Kind.P2b tx i b v a) = P2b tx i b v a ∷ []
message_items (Kind.Commit tx) = Commit tx ∷ []
message_items (Kind.Abort tx) = Abort tx ∷ []
message_items message = []

-- what a fact of a node comes to
abbrev pub comes_to : NodeId → Fact → List (Item TxParts)
comes_to (NodeId.A a) (Fact.Promise tx i b) = Promised a tx i b ∷ []
comes_to (NodeId.A a) (Fact.Accept tx i b v) = Accepted a tx i b v ∷ []
comes_to (NodeId.A a) (Fact.PromiseAll tx b) = map (λ i. Promised a tx i b) (participants tx)
comes_to (NodeId.L l) (Fact.Ballot tx b) = Began l tx b ∷ []
comes_to (NodeId.R r) (Fact.VotePrepared tx keys) = Voted r tx Vote.Prepared ∷ []
comes_to (NodeId.R r) (Fact.VoteAborted tx) = Voted r tx Vote.Aborted ∷ []
comes_to (NodeId.R r) (Fact.Committed tx) = Committed r tx ∷ []
comes_to (NodeId.R r) (Fact.Aborted tx) = StoredAbort r tx ∷ []
comes_to who fact = []
