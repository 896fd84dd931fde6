-- What the facts of a record say of acceptors' slots, leaders' ballots and resource managers' views (Gray and Lamport, "Consensus
-- on Transaction Commit", ACM TODS 31(1), 2006, section 4). A list of facts has the oldest first, as they were stored.
use Rattle.std.specs.Prelude.{ℕ, Bool, true, false, not, ◌&&◌, ◌||◌, ◌==◌, ◌⊎◌, if◌then◌else◌, List, [], ◌∷◌, ◌++◌, filter, filter_map}
use Rattle.std.specs.Prelude.{Option, Some, None}
use Rattle.protocol.specs.Basics.{list_any, last_or, XidParts, xid_eq, tx_eq, TxParts, is_participant, xid_at, Vote, Fact, Touched, fact_tx}
use Rattle.protocol.specs.Basics.{Report, is_prepared, Slot}
use Rattle.ballot.specs.Greatest.{greatest, IsIn}
use Rattle.protocol.specs.Vocabulary.{View}

-- whether two instances of transactions are the same
abbrev pub instance_eq : TxParts → ℕ → TxParts → ℕ → Bool
instance_eq tx i other j = (i == j) && tx_eq tx other

-- the ballot of an instance in which a fact has the acceptor take part
abbrev pub ballot_joined : TxParts → ℕ → Fact → Option ℕ
ballot_joined tx i (Fact.Promise other j b) = if instance_eq tx i other j then Some b else None
ballot_joined tx i (Fact.Accept other j b v) = if instance_eq tx i other j then Some b else None
ballot_joined tx i (Fact.PromiseAll other b) = if is_participant tx i && tx_eq tx other then Some b else None
ballot_joined tx i fact = None

-- what a fact has the acceptor accept of an instance
abbrev pub accept_of : TxParts → ℕ → Fact → Report
accept_of tx i (Fact.Accept other j b v) = if instance_eq tx i other j then Some (b, v) else None
accept_of tx i fact = None

-- an acceptor's slot of an instance: the greatest ballot in which it took part, and what it accepted last
abbrev pub slot : List Fact → TxParts → ℕ → Slot
slot facts tx i = record {
  mbal = greatest (filter_map (ballot_joined tx i) facts);
  report = last_or None (filter_map (accept_of tx i) facts);
}

-- whether two votes are the same
abbrev pub vote_eq : Vote → Vote → Bool
vote_eq Vote.Prepared v = is_prepared v
vote_eq Vote.Aborted v = not (is_prepared v)

-- the ballot of a transaction that a fact has the leader begin
abbrev pub ballot_begun : TxParts → Fact → Option ℕ
ballot_begun tx (Fact.Ballot other b) = if tx_eq tx other then Some b else None
ballot_begun tx fact = None

-- the greatest ballot that the leader began for a transaction, 0 where there is none
abbrev pub last_ballot : List Fact → TxParts → ℕ
last_ballot facts tx = greatest (filter_map (ballot_begun tx) facts)

-- whether a fact stores a vote on a transaction
abbrev pub is_vote_of : TxParts → Vote → Fact → Bool
is_vote_of tx Vote.Prepared (Fact.VotePrepared other keys) = tx_eq tx other
is_vote_of tx Vote.Aborted (Fact.VoteAborted other) = tx_eq tx other
is_vote_of tx vote fact = false

-- the stored vote on a transaction
abbrev pub vote_in : List Fact → TxParts → Option Vote
vote_in facts tx =
    if list_any (is_vote_of tx Vote.Prepared) facts then Some Vote.Prepared
    else if list_any (is_vote_of tx Vote.Aborted) facts then Some Vote.Aborted
    else None

-- whether a fact stores that a transaction is committed
abbrev pub is_commit_of : TxParts → Fact → Bool
is_commit_of tx (Fact.Committed other) = tx_eq tx other
is_commit_of tx fact = false

-- whether a fact stores that a transaction is aborted
abbrev pub is_abort_of : TxParts → Fact → Bool
is_abort_of tx (Fact.Aborted other) = tx_eq tx other
is_abort_of tx fact = false

-- whether an outcome of a transaction is stored
abbrev pub is_ended : List Fact → TxParts → Bool
is_ended facts tx = list_any (is_commit_of tx) facts || list_any (is_abort_of tx) facts

-- where the resource manager stands in a transaction: aborted where a vote aborted or Aborted stands, committed where Committed
-- stands, prepared where a vote prepared stands, else working
abbrev pub view : List Fact → TxParts → View
view facts tx =
    if list_any (is_vote_of tx Vote.Aborted) facts || list_any (is_abort_of tx) facts then View.Aborted
    else if list_any (is_commit_of tx) facts then View.Committed
    else if list_any (is_vote_of tx Vote.Prepared) facts then View.Prepared
    else View.Working

-- whether a view is prepared
abbrev pub is_prepared_view : View → Bool
is_prepared_view View.Prepared = true
is_prepared_view other = false

-- working or prepared
abbrev pub is_open_view : View → Bool
is_open_view View.Working = true
is_open_view View.Prepared = true
is_open_view other = false

-- a name is spent at manager rm once a vote or an outcome is stored of some transaction that has it there
abbrev pub is_spent : ℕ → List Fact → XidParts → Bool
is_spent rm facts x = list_any (xid_eq x) (filter_map (λ fact. xid_at (fact_tx fact) rm) facts)

-- a prepared branch: the transaction that it is bound to, and its touched keys
pub record Bound : Type 0 where
  pub tx : TxParts
  pub keys : List Touched

-- the branch that a prepared vote binds
abbrev pub branch_bound_by : Fact → Option Bound
branch_bound_by (Fact.VotePrepared tx keys) = Some (record { tx = tx; keys = keys })
branch_bound_by fact = None

-- the prepared branches
abbrev pub bound_branches : List Fact → List Bound
bound_branches facts = filter (λ bound. is_prepared_view (view facts bound.tx)) (filter_map branch_bound_by facts)

-- a vote stands among the facts of a resource manager
abbrev pub HasVote : List Fact → TxParts → Vote → Type 0
HasVote facts tx Vote.Prepared = (keys : List Touched) × IsIn facts (Fact.VotePrepared tx keys)
HasVote facts tx Vote.Aborted = IsIn facts (Fact.VoteAborted tx)

-- a view is one of four, by what stands
abbrev pub IsViewOf : List Fact → TxParts → View → Type 0
IsViewOf facts tx View.Working = ((v : Vote) → ¬ HasVote facts tx v) × ¬ IsIn facts (Fact.Committed tx) × ¬ IsIn facts (Fact.Aborted tx)
IsViewOf facts tx View.Prepared =
    HasVote facts tx Vote.Prepared × ¬ IsIn facts (Fact.Committed tx) × ¬ HasVote facts tx Vote.Aborted × ¬ IsIn facts (Fact.Aborted tx)
IsViewOf facts tx View.Committed = IsIn facts (Fact.Committed tx) × ¬ HasVote facts tx Vote.Aborted × ¬ IsIn facts (Fact.Aborted tx)
IsViewOf facts tx View.Aborted = HasVote facts tx Vote.Aborted ⊎ IsIn facts (Fact.Aborted tx)

-- the facts with one more, if there is one
abbrev pub with_fact : List Fact → Option Fact → List Fact
with_fact facts None = facts
with_fact facts (Some fact) = facts ++ fact ∷ []
