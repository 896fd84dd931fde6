-- What holds of all that stands, at each moment of a run.
use Rattle.std.specs.Prelude.{◌≡◌, ℕ, ◌<◌, IsTrue, Option}
use Rattle.safety.specs.Items.{Vote, Prepared, Item, Promised, Accepted, Began, Voted, Committed, StoredAbort, P1b, P2a, P2b, Commit, Abort}
use Rattle.safety.specs.Items.{Setting, IsDecided, IsMajorityPick, IsReportOfAccept, IsCovered, IsSomeAborted}

-- what holds of all that stands: each item had what allows it, and votes, proposals and outcomes are one each
pub record Invariant {Tx : Type 0} (c : Setting Tx) (Has : Item Tx → Type 0) : Type 0 where
  -- a vote is one, and a participant's
  pub vote_once : {r : ℕ} {tx : Tx} {v w : Vote} → Has (Voted r tx v) → Has (Voted r tx w) → v ≡ w
  pub voter_named : {r : ℕ} {tx : Tx} {v : Vote} → Has (Voted r tx v) → IsTrue (c.is_participant tx r)
  -- a proposal of ballot 0 is its resource manager's vote; above 0 its ballot was begun by the owner, the value was picked,
  -- and there is one for each instance and ballot
  pub first_is_vote : {tx : Tx} {i : ℕ} {v : Vote} → Has (P2a tx i 0 v) → Has (Voted i tx v)
  pub owned : {tx : Tx} {i b : ℕ} {v : Vote} → Has (P2a tx i b v) → 0 < b → Has (Began (c.owner b) tx b)
  pub picked : {tx : Tx} {i b : ℕ} {v : Vote} → Has (P2a tx i b v) → 0 < b → IsMajorityPick c.acceptors Has tx i b v
  pub proposed_once : {tx : Tx} {i b : ℕ} {v w : Vote} → Has (P2a tx i b v) → Has (P2a tx i b w) → 0 < b → v ≡ w
  -- an accept had its proposal, and phase 2b its accept
  pub accept_sent : {a : ℕ} {tx : Tx} {i b : ℕ} {v : Vote} → Has (Accepted a tx i b v) → Has (P2a tx i b v)
  pub told_accepted : {a : ℕ} {tx : Tx} {i b : ℕ} {v : Vote} → Has (P2b tx i b v a) → Has (Accepted a tx i b v)
  -- phase 1b had its promise, reports an accept below its ballot or none, and no accept below its ballot is above the report
  pub promised : {a : ℕ} {tx : Tx} {i b : ℕ} {report : Option (ℕ × Vote)} → Has (P1b tx i b report a) → Has (Promised a tx i b)
  pub reported : {a : ℕ} {tx : Tx} {i b : ℕ} {report : Option (ℕ × Vote)} → Has (P1b tx i b report a) → IsReportOfAccept Has tx i b a report
  pub covers : {a : ℕ} {tx : Tx} {i b d : ℕ} {report : Option (ℕ × Vote)} {v : Vote}
      → Has (P1b tx i b report a) → Has (Accepted a tx i d v) → d < b → IsCovered report d
  -- Commit and Abort were decided
  pub all_prepared : {tx : Tx} → Has (Commit tx) → (r : ℕ) → IsTrue (c.is_participant tx r) → IsDecided c.acceptors Has tx r Prepared
  pub some_aborted : {tx : Tx} → Has (Abort tx) → IsSomeAborted c Has tx
  -- an outcome at a resource manager had its message, and a commit its vote
  pub commit_sent : {r : ℕ} {tx : Tx} → Has (Committed r tx) → Has (Commit tx)
  pub commit_voted : {r : ℕ} {tx : Tx} → Has (Committed r tx) → Has (Voted r tx Prepared)
  pub abort_sent : {r : ℕ} {tx : Tx} → Has (StoredAbort r tx) → Has (Abort tx)
