-- What a ledger holds after each entry of a trace.
use Rattle.std.specs.Prelude.{◌≡◌, ℕ, Bool, true, ◌&&◌, List, ◌∷◌, Option, Some, None}
use Rattle.xid.specs.Transactions.{IsTx, TxParts}
use Rattle.xid.specs.Names.{XidParts}
use Rattle.safety.specs.Vocabulary.{Answer, Event, Change, Step, Row}
use Rattle.history.specs.SerialOrder.{first_commits}
use Rattle.audit.specs.Told.{moves_rightly, views_back}
use Rattle.audit.specs.Stretches.{stretch_back, stretch_by}
use Rattle.audit.specs.ToldTables.{shows_rightly, table_told}
use Rattle.audit.specs.Books.{rows_of, stretch_of, views_in, rows_changed, views_moved, firsts_changed}
use Rattle.audit.specs.declared.ledger.Ledger.{Ledger}

-- each branch after an event that was answered so, and all else as it was
pub record IsHappened (old new : Ledger) (event : Event) (answer : Answer) : Type 0 where
  pub branches : (rm : ℕ) (x : XidParts) → stretch_of new.branches rm x ≡ stretch_by rm x event answer (stretch_of old.branches rm x)
  pub tables : new.tables ≡ old.tables
  pub views : new.views ≡ old.views
  pub firsts : new.firsts ≡ old.firsts

-- a change was made in a ledger
pub record IsChanged (old new : Ledger) (change : Change) : Type 0 where
  pub valid : IsTx change.tx
  pub branches : new.branches ≡ old.branches
  pub tables : (rm : ℕ) → rows_of new.tables rm ≡ rows_changed old.tables (stretch_of old.branches) change rm
  pub views : (tx : TxParts) → views_in new.views tx ≡ views_moved old.views change tx
  pub firsts : new.firsts ≡ firsts_changed old.firsts change

-- a change was made in a ledger, if there is one
abbrev pub IsChangedBy : (old new : Ledger) → Option Change → Type 0
IsChangedBy old new None = new ≡ old
IsChangedBy old new (Some change) = IsChanged old new change

-- a ledger holds what a history tells
pub record Follows (first : ℕ → List Row) (history : List Step) (ledger : Ledger) : Type 0 where
  pub tables : (rm : ℕ) → rows_of ledger.tables rm ≡ table_told first rm history
  pub branches : (rm : ℕ) (x : XidParts) → stretch_of ledger.branches rm x ≡ stretch_back rm x history
  pub views : (tx : TxParts) → views_in ledger.views tx ≡ views_back history tx
  pub firsts : ledger.firsts ≡ first_commits history

-- a step is right after a history, or isn't; where it is, a ledger holds what it tells too
pub record Takes (first : ℕ → List Row) (before : List Step) (step : Step) (yes : Bool) (new : Ledger) : Type 0 where
  pub right : yes ≡ (shows_rightly first before step && moves_rightly before step)
  pub follows : yes ≡ true → Follows first (step ∷ before) new
