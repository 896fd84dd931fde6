-- What becomes of a branch once its work is over: it is prepared, committed or undone.
use Rattle.std.specs.Prelude.{◌≡◌, ◌⊎◌, ℕ, Contains, ◌+◌, ◌*◌, ◌-◌, ◌^◌, ◌≤◌, List, [], filter, length, map, min, Option, Some, None}
use Rattle.std.specs.List.Sorted.{IsSorted, IsPermutation}
use Rattle.std.specs.Option.{option_map_or}
use Rattle.xid.specs.Names.{XidParts, xid_cmp}
use Rattle.xid.specs.declared.refusals.Refusal.{Refusal}
use Rattle.xid.specs.declared.refusals.Refusal.TheVariants.{NoMemory, Damaged}
use Rattle.stable_record.specs.declared.fact.Touched.{Touched}
use Rattle.protocol.specs.declared.states.BranchState.{BranchState}
use Rattle.protocol.specs.Branches.{hinders_use, is_write}
use Rattle.protocol.specs.Managers.{Branch, view_named}
use Rattle.protocol.specs.Tables.{with_writes}
use Rattle.branch_table.specs.OneCall.{IsHindered}
use Rattle.branch_table.specs.TableStates.{TableState, ChangesOnly, branch_named, is_prepared}

-- the touched keys of the branch of a name; none where there is no such branch
abbrev pub keys_named : List Branch → XidParts → List Touched
keys_named branches x = option_map_or (λ branch. branch.keys) (branch_named branches x) []

-- a branch of x that is prepared with these keys
abbrev pub prepared_branch : XidParts → List Touched → Branch
prepared_branch x keys = record { xid = x; state = BranchState.Prepared; keys = keys }

-- a branch of x that is idle with these keys
abbrev pub idle_branch : XidParts → List Touched → Branch
idle_branch x keys = record { xid = x; state = BranchState.Idle; keys = keys }

-- some other branch hinders the use that a branch of x makes of these keys
abbrev pub AreHindered : List Branch → XidParts → List Touched → Type 0
AreHindered branches x keys = (touched : Touched) × (Contains keys touched)
    × IsHindered (hinders_use (is_write touched.act) touched.key) (view_named branches) x

-- a branch of x can be prepared with these keys: it is idle with just them, or there is none, and no other hinders it
abbrev pub CanBePrepared : List Branch → XidParts → List Touched → Type 0
CanBePrepared branches x keys =
    (branch_named branches x ≡ Some (idle_branch x keys))
    ⊎ ((branch_named branches x ≡ None) × (AreHindered branches x keys → ⊥))

-- nothing but the branch of x is another, which is this one, or none
pub record EndsOnly (old new : TableState) (x : XidParts) (now : Option Branch) : Type 0 where
  pub branches : ChangesOnly old.branches new.branches x now
  pub rows : new.rows ≡ old.rows

-- the branch of x was prepared with these keys
pub record IsRestored (old new : TableState) (x : XidParts) (keys : List Touched) : Type 0 where
  pub could : CanBePrepared old.branches x keys
  pub left : EndsOnly old new x (Some (prepared_branch x keys))
  pub looks : new.looks ≡ old.looks

-- why a branch of x wasn't prepared: it can't be, or there is none yet, and memory is wanted
abbrev pub RefusesRestore : List Branch → XidParts → List Touched → Refusal → Type 0
RefusesRestore branches x keys e =
    ((e ≡ Damaged) × (CanBePrepared branches x keys → ⊥))
    ⊎ ((e ≡ NoMemory) × CanBePrepared branches x keys × (branch_named branches x ≡ None))

-- so many looks more; they stay at the greatest value of 64 bits
abbrev pub looks_after : (before more : ℕ) → ℕ
looks_after before more = min (before + more) (2 ^ 64 - 1)

-- the end of a branch with this many touched keys has looked at least at each of them, and at no more than it needs
pub record HasLooked (before after : ℕ) (keys : ℕ) : Type 0 where
  pub count : ℕ
  pub least : keys ≤ count
  pub most : count ≤ 2 * keys + 4
  pub counted : after ≡ looks_after before count

-- the branch of x has ended with its writes in the table; where there was none, nothing but looks is another
pub record Commits (old new : TableState) (x : XidParts) : Type 0 where
  pub branches : ChangesOnly old.branches new.branches x None
  pub rows : new.rows ≡ with_writes old.rows (keys_named old.branches x)
  pub looks : HasLooked old.looks new.looks (length (keys_named old.branches x))

-- the branch of x has ended without effect; where there was none, nothing but looks is another
pub record Undoes (old new : TableState) (x : XidParts) : Type 0 where
  pub left : EndsOnly old new x None
  pub looks : HasLooked old.looks new.looks (length (keys_named old.branches x))

-- the names of the prepared branches
abbrev pub prepared_names : List Branch → List XidParts
prepared_names branches = map (λ branch. branch.xid) (filter (λ branch. is_prepared branch.state) branches)

-- these are the names of the prepared branches, ascending
pub record AreRecovered (branches : List Branch) (names : List XidParts) : Type 0 where
  pub same : IsPermutation (prepared_names branches) names
  pub ascending : IsSorted xid_cmp names
