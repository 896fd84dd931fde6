-- What stands in a run of Paxos Commit: stored facts and messages, and what allows each.
-- Gray and Lamport, "Consensus on Transaction Commit", ACM TODS 31(1), 2006, section 4 (Paxos Commit).
use Rattle.std.specs.Prelude.{◌≡◌, ◌⊎◌, ℕ, zero, suc, ◌<◌, ◌≤◌, Bool, IsTrue, Option, Some, None}
pub use Rattle.ballot.specs.Majority.{count, IsMajority}
pub use Rattle.xid.specs.declared.transaction.Vote.{Vote}
pub use Rattle.xid.specs.declared.transaction.Vote.TheVariants.{Prepared, Aborted}
pub use Rattle.protocol.specs.PaperItems.{Item, Promised, Accepted, Began, Voted, Committed, StoredAbort, P1b, P2a, P2b, Commit, Abort}
use Rattle.safety.specs.CommitSteps.{View, working, prepared, committed, aborted}

-- what is fixed for all time: the number of acceptors, the leader that owns a ballot above 0, and whether a
-- transaction names a resource manager, that is, has it among its participants
pub record Setting (Tx : Type 0) : Type 0 where
  pub acceptors : ℕ
  pub owner : ℕ → ℕ
  pub is_participant : Tx → ℕ → Bool

-- a majority sent phase 2b with v in ballot b (section 4.1)
pub record IsDecidedIn {Tx : Type 0} (n : ℕ) (Has : Item Tx → Type 0) (tx : Tx) (i b : ℕ) (v : Vote) : Type 0 where
  pub members : ℕ → Bool
  pub majority : IsMajority n members
  pub accepted : (a : ℕ) → a < n → IsTrue (members a) → Has (P2b tx i b v a)

-- an instance has decided v, in some ballot
abbrev pub IsDecided : {Tx : Type 0} (n : ℕ) (Has : Item Tx → Type 0) (tx : Tx) (i : ℕ) (v : Vote) → Type 0
IsDecided n Has tx i v = (b : ℕ) × IsDecidedIn n Has tx i b v

-- no member reported an accept
abbrev pub ReportsNoAccept : (n : ℕ) (members : ℕ → Bool) (report : ℕ → Option (ℕ × Vote)) → Type 0
ReportsNoAccept n members report = (a : ℕ) → a < n → IsTrue (members a) → report a ≡ None

-- the ballot of a report is at most this
abbrev pub IsBallotAtMost : Option (ℕ × Vote) → ℕ → Type 0
IsBallotAtMost None top = Unit {0}
IsBallotAtMost (Some last) top = last.0 ≤ top

-- v was reported by a member, in the greatest ballot that any member reported
pub record IsGreatestReport (n : ℕ) (members : ℕ → Bool) (report : ℕ → Option (ℕ × Vote)) (v : Vote) : Type 0 where
  pub member : ℕ
  pub top : ℕ
  pub below : member < n
  pub is_in : IsTrue (members member)
  pub says : report member ≡ Some (top, v)
  pub greatest : (a : ℕ) → a < n → IsTrue (members a) → IsBallotAtMost (report a) top

-- the value that phase 2a takes from phase 1b of a majority: aborted where none of them accepted anything, else the
-- value accepted in the greatest ballot (section 4.2)
pub record IsMajorityPick {Tx : Type 0} (n : ℕ) (Has : Item Tx → Type 0) (tx : Tx) (i b : ℕ) (v : Vote) : Type 0 where
  pub members : ℕ → Bool
  pub majority : IsMajority n members
  pub report : ℕ → Option (ℕ × Vote)
  pub heard : (a : ℕ) → a < n → IsTrue (members a) → Has (P1b tx i b (report a) a)
  pub value : ((v ≡ Aborted) × ReportsNoAccept n members report) ⊎ IsGreatestReport n members report v

-- the report of acceptor a is an accept that stands, below ballot b
abbrev pub IsReportOfAccept : {Tx : Type 0} (Has : Item Tx → Type 0) (tx : Tx) (i b a : ℕ) → Option (ℕ × Vote) → Type 0
IsReportOfAccept Has tx i b a None = Unit {0}
IsReportOfAccept Has tx i b a (Some last) = (last.0 < b) × Has (Accepted a tx i last.0 last.1)

-- the ballot c is no greater than the reported one
abbrev pub IsCovered : Option (ℕ × Vote) → ℕ → Type 0
IsCovered None c = ⊥
IsCovered (Some last) c = c ≤ last.0

-- phase 1b: the promise stands, and the report is the accept of the greatest ballot below it (section 4.1)
pub record IsPromiseReport {Tx : Type 0} (Has : Item Tx → Type 0) (tx : Tx) (i b : ℕ) (report : Option (ℕ × Vote)) (a : ℕ) : Type 0 where
  pub promised : Has (Promised a tx i b)
  pub reported : IsReportOfAccept Has tx i b a report
  pub covers : {c : ℕ} {v : Vote} → Has (Accepted a tx i c v) → c < b → IsCovered report c

-- phase 2a above ballot 0: the owner of the ballot began it, has picked v, and proposes no other value in it (section 4.1)
pub record IsProposal {Tx : Type 0} (c : Setting Tx) (Has : Item Tx → Type 0) (tx : Tx) (i b : ℕ) (v : Vote) : Type 0 where
  pub owned : Has (Began (c.owner b) tx b)
  pub picked : IsMajorityPick c.acceptors Has tx i b v
  pub alone : {w : Vote} → Has (P2a tx i b w) → w ≡ v

-- an accept: the value was proposed, and no greater ballot was promised (section 4.1)
pub record IsAcceptable {Tx : Type 0} (Has : Item Tx → Type 0) (a : ℕ) (tx : Tx) (i b : ℕ) (v : Vote) : Type 0 where
  pub sent : Has (P2a tx i b v)
  pub promise_kept : {c : ℕ} → Has (Promised a tx i c) → c ≤ b

-- a vote: the resource manager is a participant, and is working (section 4.2)
pub record IsFirstVote {Tx : Type 0} (c : Setting Tx) (Has : Item Tx → Type 0) (r : ℕ) (tx : Tx) : Type 0 where
  pub named : IsTrue (c.is_participant tx r)
  pub unvoted : {v : Vote} → ¬ Has (Voted r tx v)
  pub uncommitted : ¬ Has (Committed r tx)
  pub undropped : ¬ Has (StoredAbort r tx)

-- some participant's instance decided aborted
abbrev pub IsSomeAborted : {Tx : Type 0} (c : Setting Tx) (Has : Item Tx → Type 0) (tx : Tx) → Type 0
IsSomeAborted c Has tx = (r : ℕ) × IsTrue (c.is_participant tx r) × IsDecided c.acceptors Has tx r Aborted

-- what may be added to what stands (section 4.2). Ballot 0 belongs to the instance's resource manager, and carries its vote
abbrev pub IsAllowed : {Tx : Type 0} (c : Setting Tx) (Has : Item Tx → Type 0) → Item Tx → Type 0
IsAllowed c Has (Promised a tx i b) = Unit {0}
IsAllowed c Has (Accepted a tx i b v) = IsAcceptable Has a tx i b v
IsAllowed c Has (Began l tx b) = Unit {0}
IsAllowed c Has (Voted r tx v) = IsFirstVote c Has r tx
IsAllowed c Has (Committed r tx) = Has (Commit tx) × Has (Voted r tx Prepared)
IsAllowed c Has (StoredAbort r tx) = Has (Abort tx)
IsAllowed c Has (P1b tx i b report a) = IsPromiseReport Has tx i b report a
IsAllowed c Has (P2a tx i zero v) = Has (Voted i tx v)
IsAllowed c Has (P2a tx i (suc b) v) = IsProposal c Has tx i (suc b) v
IsAllowed c Has (P2b tx i b v a) = Has (Accepted a tx i b v)
IsAllowed c Has (Commit tx) = (r : ℕ) → IsTrue (c.is_participant tx r) → IsDecided c.acceptors Has tx r Prepared
IsAllowed c Has (Abort tx) = IsSomeAborted c Has tx

-- what is added, if anything, is allowed
abbrev pub IsAllowedIfAny : {Tx : Type 0} (c : Setting Tx) (Has : Item Tx → Type 0) → Option (Item Tx) → Type 0
IsAllowedIfAny c Has None = Unit {0}
IsAllowedIfAny c Has (Some x) = IsAllowed c Has x

-- what stands now is what stood and at most what was added
pub record IsGrown {Tx : Type 0} (Has : Item Tx → Type 0) (added : Option (Item Tx)) (Now : Item Tx → Type 0) : Type 0 where
  pub kept : {y : Item Tx} → Has y → Now y
  pub only : {y : Item Tx} → Now y → Has y ⊎ (added ≡ Some y)

-- the view of resource manager r, by what it has stored
abbrev pub IsView : {Tx : Type 0} (Has : Item Tx → Type 0) (tx : Tx) (r : ℕ) → View → Type 0
IsView Has tx r working = ((v : Vote) → ¬ Has (Voted r tx v)) × ¬ Has (Committed r tx) × ¬ Has (StoredAbort r tx)
IsView Has tx r prepared = Has (Voted r tx Prepared) × ¬ Has (Committed r tx) × ¬ Has (StoredAbort r tx)
IsView Has tx r committed = Has (Committed r tx)
IsView Has tx r aborted = Has (Voted r tx Aborted) ⊎ Has (StoredAbort r tx)

-- s is the state of a transaction: the view of each participant
abbrev pub IsState : {Tx : Type 0} (c : Setting Tx) (Has : Item Tx → Type 0) (tx : Tx) (s : ℕ → View) → Type 0
IsState c Has tx s = (r : ℕ) → IsTrue (c.is_participant tx r) → IsView Has tx r (s r)

-- the resource manager whose view a fact can change
abbrev pub manager_of : {Tx : Type 0} → Item Tx → Option ℕ
manager_of (Voted r tx v) = Some r
manager_of (Committed r tx) = Some r
manager_of (StoredAbort r tx) = Some r
manager_of _ = None
