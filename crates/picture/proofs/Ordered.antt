-- The rows of a trace are in the order of their lines: each is on the line at its place.
use Rattle.std.proofs.Common.{◌≡◌, ℕ, ◌+◌, ◌≤◌, List, [], ◌∷◌, ◌++◌, length, fold, Bool, Option, Some, None, ap, ◌∙◌, arith}
use Rattle.net_script.specs.Basics.{Change, Sent, Told}
use Rattle.net_script.specs.declared.values.Entry.{Entry}
use Rattle.net_script.specs.declared.values.Trace.{Trace}
use Rattle.picture.specs.declared.rows.Row.{Row}
use Rattle.picture.specs.declared.rows.What.{What}
use Rattle.picture.specs.Order.{Ascend}
use Rattle.picture.specs.Pictures.{trace_rows}
use Rattle.picture.specs.Rows.{line_at, are_several, with_row, with_change, with_sent, with_notice, with_entry}

-- rows from a place on, each on its line
abbrev AreNumbered : ℕ → ℕ → List Row → Type 0
AreNumbered first place [] = Unit {0}
AreNumbered first place (row ∷ rows) = (row.line ≡ line_at first place) × AreNumbered first (place + 1) rows

-- ---- one row after another

more : (first place : ℕ) (rows : List Row) (row : Row) → AreNumbered first place rows → row.line ≡ line_at first (place + length rows)
    → AreNumbered first place (rows ++ row ∷ [])
more first place [] row are is =
    let e : place + 0 ≡ place = omega arith in (is ∙ ap (line_at first) e, tt)
more first place (other ∷ rows) row are is =
    let e : place + length (other ∷ rows) ≡ (place + 1) + length rows = omega arith in
    (are.0, more first (place + 1) rows row are.1 (is ∙ ap (line_at first) e))

row_more : (first : ℕ) (rows : List Row) (label : List ℕ) (what : What) → AreNumbered first 0 rows
    → AreNumbered first 0 (with_row first rows label what)
row_more first rows label what are =
    let e : length rows ≡ 0 + length rows = omega arith in more first 0 rows _ are (ap (line_at first) e)

change_more : (first : ℕ) (several : Bool) (rows : List Row) (now : Option Change) → AreNumbered first 0 rows
    → AreNumbered first 0 (with_change first several rows now)
change_more first several rows None are = are
change_more first several rows (Some change) are = row_more first rows _ _ are

sent_more : (first : ℕ) (several : Bool) (rows : List Row) (sent : List Sent) → AreNumbered first 0 rows
    → AreNumbered first 0 (fold (with_sent first several) rows sent)
sent_more first several rows [] are = are
sent_more first several rows (datagram ∷ sent) are =
    sent_more first several (with_sent first several rows datagram) sent (row_more first rows _ _ are)

told_more : (first : ℕ) (rows : List Row) (told : List Told) → AreNumbered first 0 rows
    → AreNumbered first 0 (fold (with_notice first) rows told)
told_more first rows [] are = are
told_more first rows (notice ∷ told) are = told_more first (with_notice first rows notice) told (row_more first rows _ _ are)

entry_more : (first : ℕ) (several : Bool) (rows : List Row) (entry : Entry) → AreNumbered first 0 rows
    → AreNumbered first 0 (with_entry first several rows entry)
entry_more first several rows (Entry.Step step) are =
    told_more first _ step.told
    (sent_more first several _ step.sent (change_more first several _ step.now (row_more first rows _ _ are)))
entry_more first several rows (Entry.Serve node answer now sent) are =
    sent_more first several _ sent (change_more first several _ now (row_more first rows _ _ are))

entries_more : (first : ℕ) (several : Bool) (rows : List Row) (entries : List Entry) → AreNumbered first 0 rows
    → AreNumbered first 0 (fold (with_entry first several) rows entries)
entries_more first several rows [] are = are
entries_more first several rows (entry ∷ entries) are =
    entries_more first several (with_entry first several rows entry) entries (entry_more first several rows entry are)

-- ---- the order

from_before : (line from : ℕ) (rows : List Row) → line ≤ from → Ascend from rows → Ascend line rows
from_before line from [] le up = tt
from_before line from (row ∷ rows) le up = (omega (arith, up.0), up.1)

numbered_ascend : (first place : ℕ) (rows : List Row) → AreNumbered first place rows → Ascend (line_at first place) rows
numbered_ascend first place [] are = tt
numbered_ascend first place (row ∷ rows) are = (
  omega (arith, are.0),
  from_before row.line (line_at first (place + 1)) rows (omega (arith, are.0)) (numbered_ascend first (place + 1) rows are.1),
)

pub rows_ascend : (t : Trace) (rows : List Row) → rows ≡ trace_rows t → Ascend 0 rows
rows_ascend t rows is =
    let first : ℕ = line_at 2 (length t.tables) in
    rw is
    (from_before 0 (line_at first 0) (trace_rows t) (omega arith)
    (numbered_ascend first 0 (trace_rows t) (entries_more first (are_several t.entries) [] t.entries tt)))
