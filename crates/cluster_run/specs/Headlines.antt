-- What the lines of a trace say of the safety of its run. A history has the newest step first.
use Rattle.std.specs.Prelude.{◌≡◌, ◌≢◌, ℕ, IsTrue, List, [], ◌∷◌}
use Rattle.xid.specs.Transactions.{TxParts, is_participant}
use Rattle.xid.specs.declared.refusals.Refusal.TheVariants.{Damaged}
use Rattle.safety.specs.Vocabulary.{NodeId, Refused, Restart, Step, View}
use Rattle.protocol.specs.TCommit.{IsReady, IsCommitStep}
use Rattle.safety.specs.CommitSteps.{IsConsistent}
use Rattle.history.specs.Lines.{view_back}

-- where each resource manager stands in a transaction, as the lines say
abbrev pub views_back : List Step → TxParts → ℕ → View
views_back history tx rm = view_back rm history tx

-- by the lines up to it, a step moves each transaction by at most one step of the specification; no participant is committed while
-- another is aborted; one that became committed found each prepared or committed; and no record was found damaged
pub record IsSafeStep (before : List Step) (step : Step) : Type 0 where
  pub moved : (tx : TxParts) → IsCommitStep (is_participant tx) (views_back before tx) (views_back (step ∷ before) tx)
  pub consistent : (tx : TxParts) → IsConsistent (is_participant tx) (views_back (step ∷ before) tx)
  pub found_prepared : (tx : TxParts) (r q : ℕ) → IsTrue (is_participant tx r) → IsTrue (is_participant tx q)
      → views_back before tx r ≢ View.Committed → views_back (step ∷ before) tx r ≡ View.Committed → IsReady (views_back before tx q)
  pub undamaged : (who : NodeId) → step.event ≡ Restart who → step.answer ≢ Refused Damaged

-- each step of a history is such
abbrev pub AreSafe : List Step → Type 0
AreSafe [] = Unit {0}
AreSafe (step ∷ before) = IsSafeStep before step × AreSafe before
