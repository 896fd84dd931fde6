-- The order of rows.
use Rattle.std.specs.Prelude.{ℕ, ◌≤◌, List, [], ◌∷◌}
use Rattle.picture.specs.declared.rows.Row.{Row}

-- rows of which none has an earlier line than the one before it, and the first none earlier than this line
abbrev pub Ascend : ℕ → List Row → Type 0
Ascend line [] = Unit {0}
Ascend line (row ∷ rows) = (line ≤ row.line) × Ascend row.line rows
