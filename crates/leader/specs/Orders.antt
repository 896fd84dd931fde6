-- How contracts see what a leader sends: a transaction and a few words, and the list of messages that they come to.
use Rattle.std.specs.Prelude.{ℕ, Bool, IsTrue, if◌then◌else◌, List, [], ◌∷◌, map, Option, Some, None}
use Rattle.std.specs.List.{AllByRecursion}
use Rattle.xid.specs.Transactions.{TxParts, participants, IsTx, is_participant}
use Rattle.wire.specs.declared.message.Kind.TheVariants.{Prepare, P1a, P2a, B1a}
use Rattle.wire.specs.Messages.{IsBallot, IsLeaderBallot}
use Rattle.protocol.specs.declared.decisions.Outgoing.{Outgoing}
use Rattle.protocol.specs.declared.decisions.Address.TheVariants.{Acceptors, Managers}
use Rattle.protocol.specs.Effects.{to}
use Rattle.protocol.specs.Leaders.{outcome_messages}
use Rattle.leader.specs.declared.orders.Words.{Words}
use Rattle.leader.specs.declared.orders.Words.TheVariants.{Nothing, Prepares, Tells, Begins, Proposes}
use Rattle.leader.specs.declared.proposals.Proposal.{Proposal}

-- each resource manager is asked to prepare
abbrev pub prepare_messages : TxParts → List Outgoing
prepare_messages tx = to Managers (Prepare tx) ∷ []

-- phase 1a of each instance
abbrev pub begin_messages : TxParts → ℕ → List Outgoing
begin_messages tx b = map (λ i. to Acceptors (P1a tx i b)) (participants tx)

-- phase 1a of a ballot, in a bundled cluster and in every other
abbrev pub phase_1a_by : (bundled : Bool) → TxParts → ℕ → List Outgoing
phase_1a_by bundled tx b = if bundled then to Acceptors (B1a tx b) ∷ [] else begin_messages tx b

-- phase 2a of what is proposed
abbrev pub proposal_messages : TxParts → ℕ → List Proposal → List Outgoing
proposal_messages tx b proposals = map (λ proposal. to Acceptors (P2a tx proposal.instance b proposal.vote)) proposals

-- the messages that words of a transaction come to
abbrev pub word_messages : TxParts → Words → List Outgoing
word_messages tx Nothing = []
word_messages tx Prepares = prepare_messages tx
word_messages tx (Tells outcome address) = outcome_messages outcome tx address
word_messages tx (Begins ballot bundled) = phase_1a_by bundled tx ballot
word_messages tx (Proposes ballot proposals) = proposal_messages tx ballot proposals

-- they, where there is a transaction
abbrev pub messages_of : Option TxParts → Words → List Outgoing
messages_of None words = []
messages_of (Some tx) words = word_messages tx words

-- what is proposed is of instances of the transaction
abbrev pub AreOf : TxParts → List Proposal → Type 0
AreOf tx proposals = AllByRecursion (λ proposal. IsTrue (is_participant tx proposal.instance)) proposals

-- each message that words of a transaction come to keeps its ranges and relations
abbrev pub IsSound : TxParts → Words → Type 0
IsSound tx Nothing = Unit {0}
IsSound tx Prepares = Unit {0}
IsSound tx (Tells outcome address) = Unit {0}
IsSound tx (Begins ballot bundled) = IsLeaderBallot ballot
IsSound tx (Proposes ballot proposals) = IsBallot ballot × AreOf tx proposals

-- the same, and the transaction is one, where there is one
abbrev pub AreSound : Option TxParts → Words → Type 0
AreSound None words = Unit {0}
AreSound (Some tx) words = IsTx tx × IsSound tx words
