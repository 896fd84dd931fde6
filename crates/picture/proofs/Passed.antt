-- The views after the rows that are before a line are those before it.
use Rattle.std.proofs.Common.{◌≡◌, ℕ, ◌≤◌, ◌<◌, zero, suc, List, [], ◌∷◌, Bool, true, false, ◌&&◌, refl}
use Rattle.std.proofs.Common.{sym, ap, ◌∙◌, arith, fold, length, take, get_or}
use Rattle.std.specs.Prelude.{◌==◌, if◌then◌else◌, nat_lt}
use Rattle.std.proofs.lemmas.Bool.Decides.{nat_tests}
use Rattle.picture.specs.declared.rows.Row.{Row}
use Rattle.protocol.specs.declared.states.View.{View}
use Rattle.picture.specs.declared.rows.What.{What}
use Rattle.picture.specs.declared.rows.What.TheVariants.{Changes}
use Rattle.picture.specs.Drawing.{view_after}
use Rattle.picture.specs.Order.{Ascend}
use Rattle.picture.specs.Passing.{changed}

-- a row changes a view before a line, if the row is before it
at_line : (rm line : ℕ) (view : View) (row : Row) (what : What) (early : Bool) → nat_lt row.line line ≡ early
    → (let r : Row = record row { what = what } in view_after rm line view r ≡ (if early then changed rm view r else view))
at_line rm line view row (Changes other new) early is = rw is (by_tests (other == rm) early)
  where
    by_tests : (b c : Bool) → (if b && c then new else view) ≡ (if c then if b then new else view else view)
    by_tests true true = refl
    by_tests true false = refl
    by_tests false true = refl
    by_tests false false = refl
at_line rm line view row what true is = refl
at_line rm line view row what false is = refl

-- past a line views stay
stays : (rm line from : ℕ) (view : View) (rows : List Row) → line ≤ from → Ascend from rows → fold (view_after rm line) view rows ≡ view
stays rm line from view [] past up = refl
stays rm line from view (row ∷ rows) past up =
    let late : nat_lt row.line line ≡ false = grind (arith, nat_tests, up.0) in
    ap (λ (v : View). fold (view_after rm line) v rows) (at_line rm line view row row.what false late)
    ∙ stays rm line row.line view rows (omega (arith, up.0)) up.1

-- where all that have passed are before a line, and the next isn't
pub passed_views : (rm line from : ℕ) (view : View) (rows : List Row) (place : ℕ) → Ascend from rows → place ≤ length rows
    → ((k : ℕ) → k < place → (d : Row) → (get_or rows k d).line < line)
    → (place < length rows → (d : Row) → line ≤ (get_or rows place d).line)
    → fold (changed rm) view (take place rows) ≡ fold (view_after rm line) view rows
passed_views rm line from view [] zero up within before rest = refl
passed_views rm line from view [] (suc place) up within before rest = refl
passed_views rm line from view (row ∷ rows) zero up within before rest =
    sym (stays rm line line view (row ∷ rows) (omega arith) (rest (omega arith) row, up.1))
passed_views rm line from view (row ∷ rows) (suc place) up within before rest =
    let early : nat_lt row.line line ≡ true = grind (arith, nat_tests, before 0 (omega arith) row) in
    ap (λ (v : View). fold (changed rm) v (take place rows)) (sym (at_line rm line view row row.what true early))
    ∙ passed_views rm line row.line (view_after rm line view row) rows place up.1 (omega arith)
    (λ k lt d. before (suc k) (omega arith) d)
    (λ lt d. rest (omega arith) d)
