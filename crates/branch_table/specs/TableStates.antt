-- A resource manager's branches and its table, as lists.
use Rattle.std.specs.Prelude.{◌≡◌, ◌≢◌, ℕ, Bool, true, false, ◌&&◌, nat_lt, nat_le, if◌then◌else◌, List, [], length, map, find, fold}
use Rattle.std.specs.Prelude.{Option, Some, None}
use Rattle.std.specs.List.{IsDistinct, list_all}
use Rattle.std.specs.Option.{option_map}
use Rattle.xid.specs.Limits.{most_key, most_value}
use Rattle.xid.specs.Names.{XidParts, xid_eq}
use Rattle.stable_record.specs.declared.fact.Act.{Act}
use Rattle.protocol.specs.declared.answers.Answer.{Answer}
use Rattle.protocol.specs.declared.requests.Action.{Action}
use Rattle.protocol.specs.declared.requests.Action.TheVariants.{Start, Rollback}
use Rattle.protocol.specs.declared.rows.Row.{Row}
use Rattle.protocol.specs.declared.states.BranchState.{BranchState}
use Rattle.protocol.specs.Branches.{BranchView, is_done, is_write}
use Rattle.protocol.specs.Managers.{Branch, branch_after, view_named, with_touched}
use Rattle.protocol.specs.Tables.{put_row}
use Rattle.branch_table.specs.OneCall.{Answers, Leaves}

-- what a resource manager has in memory: the rows of its table, and its branches; and how much the ends of branches have looked at
pub record TableState : Type 0 where
  pub rows : List Row
  pub branches : List Branch
  pub looks : ℕ

-- the table of first contents in any order: of two rows with one key the later counts
abbrev pub first_table : List Row → List Row
first_table rows = fold put_row [] rows

-- the lengths of a row are within the limits
abbrev pub is_row : Row → Bool
is_row row = nat_lt 0 (length row.key) && nat_le (length row.key) most_key && nat_le (length row.value) most_value

-- the lengths of each row are within the limits
abbrev pub are_rows : List Row → Bool
are_rows rows = list_all is_row rows

-- whether a branch in this state is active
abbrev pub is_active : BranchState → Bool
is_active BranchState.Active = true
is_active state = false

-- whether a branch in this state is idle
abbrev pub is_idle : BranchState → Bool
is_idle BranchState.Idle = true
is_idle state = false

-- whether a branch in this state is prepared
abbrev pub is_prepared : BranchState → Bool
is_prepared BranchState.Prepared = true
is_prepared state = false

-- whether a branch in this state was ended, and isn't prepared
abbrev pub can_be_rolled_back : BranchState → Bool
can_be_rolled_back BranchState.Idle = true
can_be_rolled_back BranchState.RollbackOnly = true
can_be_rolled_back state = false

-- a branch in another state
abbrev pub in_state : BranchState → Branch → Branch
in_state state branch = record branch { state = state }

-- a branch with one more act on a key
abbrev pub with_act : (key : List ℕ) → Act → Branch → Branch
with_act key act branch = record branch { keys = with_touched branch.keys key act }

-- the branch of a name
abbrev pub branch_named : List Branch → XidParts → Option Branch
branch_named branches x = find (λ branch. xid_eq branch.xid x) branches

-- of branches that show so, no two of different names hold a key that one of them has put or deleted
abbrev pub AreHeldApart : (XidParts → BranchView) → Type 0
AreHeldApart at = (x y : XidParts) → x ≢ y → (key : List ℕ) → is_write ((at x).act key) ≡ true → (at y).touched key ≡ false

-- the branches of a table: no XID has two, and no key is held by two branches of which one has put or deleted it
pub record AreTableBranches (branches : List Branch) : Type 0 where
  pub distinct : IsDistinct xid_eq (map (λ branch. branch.xid) branches)
  pub apart : AreHeldApart (view_named branches)

-- the name x has this branch now, or none, and every other name has the branch that it had
pub record ChangesOnly (old new : List Branch) (x : XidParts) (now : Option Branch) : Type 0 where
  pub own : branch_named new x ≡ now
  pub others : (y : XidParts) → y ≢ x → branch_named new y ≡ branch_named old y

-- the branch that a call leaves which was done
abbrev pub branch_done : Option Branch → XidParts → Action → Option Branch
branch_done old x Start = Some (record { xid = x; state = BranchState.Active; keys = [] })
branch_done old x Rollback = None
branch_done old x action = option_map (branch_after action) old

-- the branch that a call leaves which was answered so
abbrev pub branch_left : Option Branch → XidParts → Action → Answer → Option Branch
branch_left old x action answer = if is_done action answer then branch_done old x action else old

-- one call on branch x was answered, and has left what the table of client calls says
pub record Steps (old new : TableState) (x : XidParts) (action : Action) (answer : Answer) : Type 0 where
  pub answers : Answers old.rows (view_named old.branches) x action answer
  pub leaves : Leaves (view_named old.branches) (view_named new.branches) x action answer
  pub branches : ChangesOnly old.branches new.branches x (branch_left (branch_named old.branches x) x action answer)
  pub rows : new.rows ≡ old.rows
