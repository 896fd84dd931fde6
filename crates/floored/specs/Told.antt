-- What a node was told of the floors of resource managers, of each at its number.
use Rattle.std.specs.Prelude.{◌≡◌, ℕ, ◌<◌, ◌==◌, if◌then◌else◌, List, length, Option, Some, None}
use Rattle.std.specs.List.{slice_index_or}
use Rattle.xid.specs.Places.{Place}
use Rattle.wire.specs.declared.notice.Notice.{Notice}
use Rattle.floors.specs.Worlds.{higher}

-- what one told: none, where it told none
abbrev pub told_at : List (Option Place) → ℕ → Option Place
told_at floors rm = slice_index_or floors rm None

-- one told its floor: of each the highest is kept
pub record HasHeard (notice : Notice) (old new : List (Option Place)) : Type 0 where
  pub len : length new ≡ length old
  pub told_are : (rm : ℕ) → rm < length old
      → told_at new rm ≡ (if rm == notice.manager then higher (told_at old rm) (Some notice.floor) else told_at old rm)
