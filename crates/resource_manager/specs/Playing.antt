-- What is left once a resource manager has made itself ready for a fact, or has played it.
use Rattle.std.specs.Prelude.{◌≡◌, ◌⊎◌, ℕ, Bool, true, ◌||◌, if◌then◌else◌, List, Option, Some, None, is_some, Result, Ok, Err, OnErr}
use Rattle.xid.specs.Names.{XidParts, xid_eq}
use Rattle.xid.specs.Transactions.{TxParts}
use Rattle.xid.specs.declared.refusals.Refusal.{Refusal}
use Rattle.stable_record.specs.declared.fact.FactKind.{FactKind as Fact}
use Rattle.stable_record.specs.declared.fact.Touched.{Touched}
use Rattle.protocol.specs.Effects.{Config}
use Rattle.protocol.specs.Managers.{Branch}
use Rattle.stable_record.specs.Parts.{IsPlayed}
use Rattle.protocol.specs.Tables.{with_writes}
use Rattle.branch_table.specs.TableStates.{ChangesOnly, branch_named}
use Rattle.branch_table.specs.Outcomes.{CanBePrepared, keys_named, prepared_branch}
use Rattle.resource_manager.specs.Courses.{course_in, Sets, begun_with}
use Rattle.resource_manager.specs.SpentNames.{is_spent_in}
use Rattle.resource_manager.specs.Managers.{ManagerParts, HasPlaces, IsPlayable, StandsForSame, manager_part}
use Rattle.resource_manager.specs.declared.course.Course.{Course}

-- all means what it meant; places may be more
pub record MeansSame (old new : ManagerParts) : Type 0 where
  pub number : new.number ≡ old.number
  pub managers : new.managers ≡ old.managers
  pub courses : (tx : TxParts) → course_in new.courses tx ≡ course_in old.courses tx
  pub begun : new.courses.begun ≡ old.courses.begun
  pub spent : (x : XidParts) → is_spent_in new.spent x ≡ is_spent_in old.spent x
  pub rows : new.table.rows ≡ old.table.rows
  pub branches : (x : XidParts) → branch_named new.table.branches x ≡ branch_named old.table.branches x

-- a transaction has come so far, and its name is spent; the table is as it was
pub record Stores (old new : ManagerParts) (tx : TxParts) (x : XidParts) (course : Course) : Type 0 where
  pub number : new.number ≡ old.number
  pub managers : new.managers ≡ old.managers
  pub courses : Sets old.courses new.courses tx course
  pub begun : new.courses.begun ≡ begun_with old.courses tx
  pub spent : (y : XidParts) → is_spent_in new.spent y ≡ (xid_eq y x || is_spent_in old.spent y)
  pub table : new.table ≡ old.table

-- a transaction has come so far, and its name is spent, which has this branch now, or none
pub record Becomes (old new : ManagerParts) (tx : TxParts) (x : XidParts) (course : Course) (now : Option Branch) : Type 0 where
  pub number : new.number ≡ old.number
  pub managers : new.managers ≡ old.managers
  pub courses : Sets old.courses new.courses tx course
  pub begun : new.courses.begun ≡ begun_with old.courses tx
  pub spent : (y : XidParts) → is_spent_in new.spent y ≡ (xid_eq y x || is_spent_in old.spent y)
  pub rows : new.table.rows ≡ old.table.rows
  pub branches : ChangesOnly old.table.branches new.table.branches x now

-- a transaction is committed, and its branch has ended with its writes in the table
pub record BecomesCommitted (old new : ManagerParts) (tx : TxParts) (x : XidParts) : Type 0 where
  pub number : new.number ≡ old.number
  pub managers : new.managers ≡ old.managers
  pub courses : Sets old.courses new.courses tx Course.Committed
  pub begun : new.courses.begun ≡ begun_with old.courses tx
  pub spent : (y : XidParts) → is_spent_in new.spent y ≡ is_spent_in old.spent y
  pub rows : new.table.rows ≡ with_writes old.table.rows (keys_named old.table.branches x)
  pub branches : ChangesOnly old.table.branches new.table.branches x None

-- a branch of x exists
abbrev pub IsThere : ManagerParts → XidParts → Type 0
IsThere m x = is_some (branch_named m.table.branches x) ≡ true

-- why a vote prepared wasn't played: its branch can't be prepared; or it can, or is there, and the manager wasn't ready
abbrev pub RefusesVote : ManagerParts → TxParts → XidParts → List Touched → Refusal → Type 0
RefusesVote old tx x keys Refusal.Damaged = CanBePrepared old.table.branches x keys → ⊥
RefusesVote old tx x keys Refusal.NoMemory =
    (CanBePrepared old.table.branches x keys ⊎ IsThere old x) × (HasPlaces old tx → IsThere old x → ⊥)
RefusesVote old tx x keys e = ⊥

-- a vote prepared was played or not
abbrev pub PlaysVote : (old new : ManagerParts) → TxParts → XidParts → List Touched → Result (Unit {0}) Refusal → Type 0
PlaysVote old new tx x keys (Ok done) =
    CanBePrepared old.table.branches x keys × Becomes old new tx x Course.Prepared (Some (prepared_branch x keys))
PlaysVote old new tx x keys (Err e) = RefusesVote old tx x keys e × MeansSame old new

-- a transaction ended without effect, and with it the branch of its name, unless that is another's
abbrev pub PlaysEnd : (old new : ManagerParts) → TxParts → XidParts → (anothers : Bool) → Course → Result (Unit {0}) Refusal → Type 0
PlaysEnd old new tx x anothers course (Ok done) =
    Becomes old new tx x course (if anothers then branch_named old.table.branches x else None)
PlaysEnd old new tx x anothers course (Err Refusal.NoMemory) = (HasPlaces old tx → ⊥) × MeansSame old new
PlaysEnd old new tx x anothers course (Err e) = ⊥

-- a fact was played or not, for whatever the resource manager stood for
pub record Plays (old new : ManagerParts) (fact : Fact) (result : Result (Unit {0}) Refusal) : Type 0 where
  pub played : (config : Config) (number : ℕ) (branches : List Branch) → IsPlayable number branches fact
      → IsPlayed (manager_part config number branches) old new fact result
  pub refused : OnErr result (StandsForSame old new)
