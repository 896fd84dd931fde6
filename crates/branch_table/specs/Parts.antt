-- The parts that a resource manager's memory is made of: branches without their names, and what is known of each key, its row and its
-- hold. Holds are the touched keys of the branches the other way round.
use Rattle.std.specs.Prelude.{◌≡◌, ℕ, ◌+◌, ◌-◌, ◌<◌, Bool, true, false, not, ◌&&◌, ◌==◌, if◌then◌else◌, List, [], ◌∷◌, map, filter_map}
use Rattle.std.specs.Prelude.{Option, Some, None}
use Rattle.std.specs.List.{IsDistinct, count_by}
use Rattle.std.specs.Map.{lookup}
use Rattle.std.specs.Option.{option_map, unwrap_or}
use Rattle.std.specs.Str.{bytes_eq}
use Rattle.xid.specs.Names.{XidParts, xid_eq}
use Rattle.stable_record.specs.declared.fact.Act.{Act}
use Rattle.stable_record.specs.declared.fact.Touched.{Touched}
use Rattle.protocol.specs.declared.rows.Row.{Row}
use Rattle.protocol.specs.declared.states.BranchState.{BranchState}
use Rattle.protocol.specs.Branches.{hinders_use, is_write, value_after}
use Rattle.protocol.specs.Managers.{Branch, view_by, act_on, has_key}
use Rattle.protocol.specs.Tables.{rows_after}
use Rattle.branch_table.specs.TableStates.{ChangesOnly, branch_named, is_row}
use Rattle.branch_table.specs.declared.hold.Hold.{Hold}
use Rattle.branch_table.specs.declared.places.Place.{Place}

-- ---- branches

-- a branch without its name
pub record Course : Type 0 where
  pub state : BranchState
  pub keys : List Touched

-- the branch of a name that has come so far
abbrev pub branch_of : XidParts → Course → Branch
branch_of x course = record { xid = x; state = course.state; keys = course.keys }

-- whether a branch uses a key so that it hinders another's use of it, to write it or only to read it
abbrev pub is_using : (writes : Bool) → (key : List ℕ) → Branch → Bool
is_using writes key branch = hinders_use writes key (view_by branch.state branch.keys)

-- 1 where a branch uses a key so, if there is one, and else 0
abbrev pub uses_of : (writes : Bool) → (key : List ℕ) → Option Branch → ℕ
uses_of writes key None = 0
uses_of writes key (Some branch) = if is_using writes key branch then 1 else 0

-- how many branches use a key so
abbrev pub uses_in : (writes : Bool) → (key : List ℕ) → List Branch → ℕ
uses_in writes key branches = count_by (is_using writes key) branches

-- the branch of x was this one, and is this one now; all else is as it was, no name has two, and each use of a key is counted as before
-- but for these two
pub record Replaces (old new : List Branch) (x : XidParts) (was now : Option Branch) : Type 0 where
  pub found : branch_named old x ≡ was
  pub only : ChangesOnly old new x now
  pub distinct : IsDistinct xid_eq (map (λ branch. branch.xid) new)
  pub counts : (writes : Bool) (key : List ℕ)
      → uses_in writes key new + uses_of writes key was ≡ uses_in writes key old + uses_of writes key now

-- ---- what is known of each key

-- a key that no branch holds
abbrev pub free : Hold
free = record { touched_by = 0; written_by = 0 }

-- a key of which nothing is known: it has no row, and no branch holds it
abbrev pub no_place : Place
no_place = record { value = None; hold = free }

-- what is known of a key
abbrev pub place_at : List (List ℕ × Place) → List ℕ → Place
place_at places key = unwrap_or (lookup (bytes_eq key) places) no_place

-- the hold of a key
abbrev pub hold_at : List (List ℕ × Place) → List ℕ → Hold
hold_at places key = (place_at places key).hold

-- a place with some holders more
abbrev pub place_and : Place → Hold → Place
place_and place more = record {
  value = place.value;
  hold = record {
    touched_by = place.hold.touched_by + more.touched_by;
    written_by = place.hold.written_by + more.written_by;
  };
}

-- a place with some holders less, and with the value that a last act leaves
abbrev pub place_left : Place → Act → Hold → Place
place_left place act fewer = record {
  value = value_after act place.value;
  hold = record {
    touched_by = place.hold.touched_by - fewer.touched_by;
    written_by = place.hold.written_by - fewer.written_by;
  };
}

-- this is known of one key now, and of each other what was
abbrev pub SetsPlace : (old new : List (List ℕ × Place)) → List ℕ → Place → Type 0
SetsPlace old new key place =
    (other : List ℕ) → place_at new other ≡ (if bytes_eq key other then place else place_at old other)

-- a value can be put at a key: its row fits, and a branch holds the key
abbrev pub CanLeave : List (List ℕ × Place) → List ℕ → Act → Type 0
CanLeave places key (Act.Put value) = (is_row (record { key = key; value = value }) ≡ true) × (0 < (hold_at places key).touched_by)
CanLeave places key act = Unit {0}

-- ---- holds

-- the branches of a hold that hinder another's use of the key, to write it or only to read it
abbrev pub uses_held : (writes : Bool) → Hold → ℕ
uses_held true hold = hold.touched_by
uses_held false hold = hold.written_by

-- one key has some holders more
abbrev pub AddsHolders : (old new : List (List ℕ × Place)) → List ℕ → Hold → Type 0
AddsHolders old new key more = (writes : Bool) (other : List ℕ)
    → uses_held writes (hold_at new other)
    ≡ (if bytes_eq key other then uses_held writes (hold_at old other) + uses_held writes more else uses_held writes (hold_at old other))

-- one key has some holders less
abbrev pub TakesHolders : (old new : List (List ℕ × Place)) → List ℕ → Hold → Type 0
TakesHolders old new key fewer = (writes : Bool) (other : List ℕ)
    → uses_held writes (hold_at new other)
    ≡ (if bytes_eq key other then uses_held writes (hold_at old other) - uses_held writes fewer else uses_held writes (hold_at old other))

-- the hold that a branch with these touched keys has on a key
abbrev pub hold_of : List Touched → List ℕ → Hold
hold_of keys key = record {
  touched_by = if has_key key keys then 1 else 0;
  written_by = if is_write (act_on keys key) then 1 else 0;
}

-- the hold of one branch whose last act on a key is this one
abbrev pub hold_by : Act → Hold
hold_by act = record { touched_by = 1; written_by = if is_write act then 1 else 0 }

-- what one more act on a key makes of the hold of a branch with these touched keys, which has one use of it more or none
abbrev pub hold_more : List Touched → List ℕ → Act → Hold
hold_more keys key act = record {
  touched_by = if has_key key keys then 0 else 1;
  written_by = if is_write act && not (is_write (act_on keys key)) then 1 else 0;
}

-- what one more act on a key adds to the hold that its branch has on it
abbrev pub more_by : Hold → Act → Hold
more_by own act = record {
  touched_by = if own.touched_by == 0 then 1 else 0;
  written_by = if is_write act && own.written_by == 0 then 1 else 0;
}

-- the uses that a branch with these touched keys makes of a key
abbrev pub uses_by : (writes : Bool) → (key : List ℕ) → List Touched → ℕ
uses_by writes key keys = if hinders_use writes key (view_by BranchState.Active keys) then 1 else 0

-- holds are what branches have touched and written, the other way round
abbrev pub AreHolds : List (List ℕ × Place) → List Branch → Type 0
AreHolds places branches = (writes : Bool) (key : List ℕ) → uses_held writes (hold_at places key) ≡ uses_in writes key branches

-- ---- rows

-- the row of a key, if it has one
abbrev pub row_of_place : List ℕ × Place → Option Row
row_of_place place = option_map (λ value. record { key = place.0; value = value }) place.1.value

-- the rows among places
abbrev pub rows_in : List (List ℕ × Place) → List Row
rows_in places = filter_map row_of_place places

-- the act that leaves a value, or none
abbrev pub act_to : Option (List ℕ) → Act
act_to None = Act.Del
act_to (Some value) = Act.Put value

-- the rows among places, with their keys ascending
abbrev pub table_of : List (List ℕ × Place) → List Row
table_of [] = []
table_of (place ∷ places) = rows_after (table_of places) place.0 (act_to place.1.value)
