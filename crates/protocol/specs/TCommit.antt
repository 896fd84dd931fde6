-- What a transaction commit protocol may do, seen from all its participants at once: the specification.
-- Gray and Lamport, "Consensus on Transaction Commit", ACM TODS 31(1), 2006, section 2.
use Rattle.std.specs.Prelude.{◌≡◌, ◌≢◌, ◌⊎◌, ℕ, Bool, IsTrue}
use Rattle.protocol.specs.Vocabulary.{View}

-- prepared or committed
abbrev pub IsReady : View → Type 0
IsReady View.Prepared = Unit {0}
IsReady View.Committed = Unit {0}
IsReady _ = ⊥

-- one resource manager's change in the state s of a transaction's participants: it prepares; it commits, all being
-- prepared or committed; it aborts, none being committed
abbrev pub IsCommitMove : (participant : ℕ → Bool) (s : ℕ → View) → View → View → Type 0
IsCommitMove participant s View.Working View.Prepared = Unit {0}
IsCommitMove participant s View.Prepared View.Committed = (r : ℕ) → IsTrue (participant r) → IsReady (s r)
IsCommitMove participant s View.Working View.Aborted = (r : ℕ) → IsTrue (participant r) → s r ≢ View.Committed
IsCommitMove participant s View.Prepared View.Aborted = (r : ℕ) → IsTrue (participant r) → s r ≢ View.Committed
IsCommitMove participant s _ _ = ⊥

-- two states differ at one participant only, by such a change
pub record IsOneMove (participant : ℕ → Bool) (s t : ℕ → View) : Type 0 where
  pub mover : ℕ
  pub named : IsTrue (participant mover)
  pub moves : IsCommitMove participant s (s mover) (t mover)
  pub others : (r : ℕ) → IsTrue (participant r) → r ≢ mover → t r ≡ s r

-- a step of the machine: nothing changes, or one participant does
abbrev pub IsCommitStep : (participant : ℕ → Bool) (s t : ℕ → View) → Type 0
IsCommitStep participant s t = ((r : ℕ) → IsTrue (participant r) → t r ≡ s r) ⊎ IsOneMove participant s t
