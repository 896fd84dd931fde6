-- The messages of Paxos Commit (Gray and Lamport, "Consensus on Transaction Commit", section 4), with the ranges and relations
-- that each keeps. Prepare, Commit and Abort go to resource managers, and Ask is this system's own.
use Rattle.std.specs.Prelude.{ℕ, ◌<◌, ◌≤◌, ◌^◌, IsTrue, List, length, map, Option, Some, None}
use Rattle.std.specs.List.{AllByRecursion}
use Rattle.std.specs.List.Sorted.{IsStrictlyIncreasing}
use Rattle.xid.specs.Limits.{most_acceptors}
use Rattle.xid.specs.Transactions.{TxParts, IsTx, is_participant}
use Rattle.xid.specs.declared.transaction.Vote.{Vote}
use Rattle.wire.specs.declared.message.Kind.{Kind}
use Rattle.wire.specs.declared.items.InstanceReport.{InstanceReport}
use Rattle.wire.specs.declared.items.InstanceAccept.{InstanceAccept}
use Rattle.wire.specs.declared.message.Kind.TheVariants.{Prepare, P1a, P1b, P2a, P2b, Commit, Abort, Ask, B1a, B1b, B2b}

-- an instance of a transaction: the number of one of its resource managers
pub record IsInstance (tx : TxParts) (rm : ℕ) : Type 0 where
  pub valid : IsTx tx
  pub named : IsTrue (is_participant tx rm)

-- a number is a ballot
abbrev pub IsBallot : ℕ → Type 0
IsBallot ballot = ballot < 2 ^ 32

-- a ballot of a leader: ballot 0 is the resource manager's
pub record IsLeaderBallot (ballot : ℕ) : Type 0 where
  pub some : 1 ≤ ballot
  pub fits : IsBallot ballot

-- a number is an acceptor's: they count from 0
abbrev pub IsAcceptor : ℕ → Type 0
IsAcceptor acceptor = acceptor < most_acceptors

-- a report of phase 1b: what was accepted last, in a ballot below the one promised
abbrev pub IsReportBelow : ℕ → Option (ℕ × Vote) → Type 0
IsReportBelow ballot None = Unit {0}
IsReportBelow ballot (Some accepted) = accepted.0 < ballot

-- the instances of a bundle's items: there is one, and they are instances of the transaction, ascending
pub record AreInstances (tx : TxParts) (instances : List ℕ) : Type 0 where
  pub valid : IsTx tx
  pub some : 1 ≤ length instances
  pub named : AllByRecursion (λ rm. IsTrue (is_participant tx rm)) instances
  pub ascending : IsStrictlyIncreasing instances

-- the instances of the items of phase 1b
abbrev pub reported_instances : List InstanceReport → List ℕ
reported_instances reports = map (λ item. item.instance) reports

-- the instances of the items of phase 2b
abbrev pub accepted_instances : List InstanceAccept → List ℕ
accepted_instances accepts = map (λ item. item.instance) accepts

-- a kind is a message: all its ranges and relations hold
abbrev pub IsMessage : Kind → Type 0
IsMessage (Prepare tx) = IsTx tx
IsMessage (P1a tx rm ballot) = IsInstance tx rm × IsLeaderBallot ballot
IsMessage (P1b tx rm ballot report acceptor) = IsInstance tx rm × IsLeaderBallot ballot × IsReportBelow ballot report × IsAcceptor acceptor
IsMessage (P2a tx rm ballot vote) = IsInstance tx rm × IsBallot ballot
IsMessage (P2b tx rm ballot vote acceptor) = IsInstance tx rm × IsBallot ballot × IsAcceptor acceptor
IsMessage (Commit tx) = IsTx tx
IsMessage (Abort tx) = IsTx tx
IsMessage (Ask tx rm) = IsInstance tx rm
IsMessage (B1a tx ballot) = IsTx tx × IsLeaderBallot ballot
IsMessage (B1b tx ballot acceptor reports) = AreInstances tx (reported_instances reports) × IsLeaderBallot ballot × IsAcceptor acceptor
    × AllByRecursion (λ item. IsReportBelow ballot item.report) reports
IsMessage (B2b tx acceptor accepts) = AreInstances tx (accepted_instances accepts) × IsAcceptor acceptor
    × AllByRecursion (λ item. IsBallot item.ballot) accepts

-- the transaction that a message is about
abbrev pub message_tx : Kind → TxParts
message_tx (Prepare tx) = tx
message_tx (P1a tx rm ballot) = tx
message_tx (P1b tx rm ballot report acceptor) = tx
message_tx (P2a tx rm ballot vote) = tx
message_tx (P2b tx rm ballot vote acceptor) = tx
message_tx (Commit tx) = tx
message_tx (Abort tx) = tx
message_tx (Ask tx rm) = tx
message_tx (B1a tx ballot) = tx
message_tx (B1b tx ballot acceptor reports) = tx
message_tx (B2b tx acceptor accepts) = tx
