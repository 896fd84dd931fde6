-- The views of resource managers while rows pass.
use Rattle.std.specs.Prelude.{◌≡◌, ℕ, ◌-◌, ◌*◌, ◌^◌, ◌<◌, ◌≤◌, ◌==◌, min, if◌then◌else◌, List, fold, length, take, slice_index_or}
use Rattle.protocol.specs.declared.states.View.{View}
use Rattle.picture.specs.declared.rows.Row.{Row}
use Rattle.picture.specs.declared.rows.What.{What}
use Rattle.picture.specs.declared.rows.What.TheVariants.{Changes}
use Rattle.picture.specs.declared.views.Views.{Views}
use Rattle.picture.specs.Drawing.{next_line, view_before}
use Rattle.picture.specs.Order.{Ascend}

-- the first line of a page
abbrev pub page_line : ℕ → ℕ
page_line page = next_line (min (page * 90) (2 ^ 32 - 1))

-- the view of a resource manager after a row more
abbrev pub changed : ℕ → View → Row → View
changed rm view row = by row.what where
  by : What → View
  by (Changes other new) = if other == rm then new else view
  by what = view

-- the view of a resource manager, where those of the first are known, and each other is working
abbrev pub view_of : List View → ℕ → View
view_of views rm = slice_index_or views rm View.Working

-- views are those after the rows that have passed, and all of these are before a line
pub record HavePassed (v : Views) (line : ℕ) : Type 0 where
  pub ascend : Ascend 0 v.rows.now
  pub within : v.place ≤ length v.rows.now
  pub last : (rm : ℕ) → view_of v.views rm ≡ fold (changed rm) View.Working (take v.place v.rows.now)
  pub before : (k : ℕ) → k < v.place → (d : Row) → (slice_index_or v.rows.now k d).line < line

-- views are those before a line
abbrev pub AreBefore : Views → ℕ → Type 0
AreBefore v line = (rm : ℕ) → view_of v.views rm ≡ view_before v.rows.now rm line
