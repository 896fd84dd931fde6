-- What stands in a world: facts in the records of nodes, messages in datagrams that were ever sent.
use Rattle.std.specs.Prelude.{◌⊎◌, ℕ, IsTrue, List, [], Option, Some, None}
use Rattle.std.specs.List.{flat_map}
use Rattle.xid.specs.Transactions.{TxParts, is_participant}
use Rattle.wire.specs.declared.message.Kind.{Kind}
use Rattle.wire.specs.declared.message.Kind.TheVariants as kinds
use Rattle.ballot.specs.Greatest.{IsIn}
use Rattle.ballot.specs.Ballots.{owner_of}
use Rattle.stable_record.specs.declared.fact.FactKind.TheVariants as stored
use Rattle.protocol.specs.Basics.{Fact}
use Rattle.safety.specs.Vocabulary.{NodeId, A, L, R}
use Rattle.protocol.specs.Effects.{Config}
use Rattle.protocol.specs.Nodes.{NodeState}
use Rattle.protocol.specs.PaperItems.{unbundled}
pub use Rattle.protocol.specs.Facts.{HasVote}
use Rattle.protocol.specs.Worlds.{World, node_at}
use Rattle.safety.specs.Items.{Setting, Item, Promised, Accepted, Began, Voted, Committed, StoredAbort, P1b, P2a, P2b, Commit, Abort}

-- what is fixed in a cluster
abbrev pub setting : Config → Setting TxParts
setting config = record { acceptors = config.acceptors; owner = owner_of config.leaders; is_participant = is_participant }

-- a promise of an instance stands among the facts of an acceptor: its own, or one for all instances of the transaction
abbrev pub IsPromised : List Fact → TxParts → ℕ → ℕ → Type 0
IsPromised facts tx i b = IsIn facts (stored.Promise tx i b) ⊎ (IsTrue (is_participant tx i) × IsIn facts (stored.PromiseAll tx b))

-- an item stands: facts gives those of each node, sent the paper's messages that were sent
abbrev pub StandsBy : (facts : NodeId → List Fact) (sent : List Kind) → Item TxParts → Type 0
StandsBy facts sent (Promised a tx i b) = IsPromised (facts (A a)) tx i b
StandsBy facts sent (Accepted a tx i b v) = IsIn (facts (A a)) (stored.Accept tx i b v)
StandsBy facts sent (Began l tx b) = IsIn (facts (L l)) (stored.Ballot tx b)
StandsBy facts sent (Voted r tx v) = HasVote (facts (R r)) tx v
StandsBy facts sent (Committed r tx) = IsIn (facts (R r)) (stored.Committed tx)
StandsBy facts sent (StoredAbort r tx) = IsIn (facts (R r)) (stored.Aborted tx)
StandsBy facts sent (P1b tx i b report a) = IsIn sent (kinds.P1b tx i b report a)
StandsBy facts sent (P2a tx i b v) = IsIn sent (kinds.P2a tx i b v)
StandsBy facts sent (P2b tx i b v a) = IsIn sent (kinds.P2b tx i b v a)
StandsBy facts sent (Commit tx) = IsIn sent (kinds.Commit tx)
StandsBy facts sent (Abort tx) = IsIn sent (kinds.Abort tx)

-- the facts of a node, none where there is no such node
abbrev pub facts_of : Option NodeState → List Fact
facts_of None = []
facts_of (Some node) = node.facts

-- the facts of the node of a name in a world
abbrev pub facts_at : Config → World → NodeId → List Fact
facts_at config world who = facts_of (node_at config world who)

-- the paper's messages of the datagrams that were ever sent
abbrev pub sent_in : World → List Kind
sent_in world = flat_map (λ datagram. unbundled datagram.message) world.net

-- an item stands in a world
abbrev pub Stands : Config → World → Item TxParts → Type 0
Stands config world = StandsBy (facts_at config world) (sent_in world)
