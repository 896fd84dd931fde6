-- The specification's machine, under the words of this crate, and what holds of its states. Gray and Lamport, "Consensus on
-- Transaction Commit", ACM TODS 31(1), 2006, section 2.
pub use Rattle.protocol.specs.declared.states.View.{View}
pub use Rattle.protocol.specs.declared.states.View.TheVariants.{Working as working, Prepared as prepared, Committed as committed}
pub use Rattle.protocol.specs.declared.states.View.TheVariants.{Aborted as aborted}
pub use Rattle.protocol.specs.TCommit.{IsReady, IsCommitMove, IsOneMove, IsCommitStep}
use Rattle.std.specs.Prelude.{◌≡◌, ◌≢◌, ℕ, Bool, IsTrue}

-- no participant is committed while another is aborted
abbrev pub IsConsistent : (participant : ℕ → Bool) (s : ℕ → View) → Type 0
IsConsistent participant s = (r q : ℕ) → IsTrue (participant r) → IsTrue (participant q) → s r ≡ committed → s q ≢ aborted
