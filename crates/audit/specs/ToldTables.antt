-- Tables at each point of a trace, by looking back over a history, which has the newest first, and what gets are to show.
use Rattle.std.specs.Prelude.{ℕ, suc, Bool, true, ◌&&◌, ◌==◌, if◌then◌else◌, List, [], ◌∷◌, fold, Option, Some, None}
use Rattle.std.specs.Cmp.Lexicographic.{pointwise}
use Rattle.std.specs.Option.{option_map_or, option_and_then, option_eq}
use Rattle.std.specs.Str.{bytes_eq}
use Rattle.xid.specs.Transactions.{TxParts}
use Rattle.protocol.specs.Basics.{Act}
use Rattle.safety.specs.Vocabulary.{Answer, Value, NoValue, Event, Ask, Step, R, Action, Get, Call, Row}
use Rattle.protocol.specs.Branches.{row_at, value_after}
use Rattle.protocol.specs.Rows.{row_eq}
use Rattle.protocol.specs.Tables.{put_row, with_writes}
use Rattle.history.specs.Lines.{change_at}
use Rattle.history.specs.Writes.{is_committed_view, changed_to}
use Rattle.net_script.specs.declared.values.Table.{Table}
use Rattle.audit.specs.Stretches.{StretchParts, Stretches, own_act, stretches_back, writes_in, writes_at}

-- the first contents of a resource manager's table: none where no line gives them
abbrev pub first_rows_of : List Table → ℕ → List Row
first_rows_of tables rm = fold (λ rows (table : Table). if table.rm == rm then table.rows else rows) [] tables

-- those of all resource managers, with their keys ascending
abbrev pub first_tables : List Table → ℕ → List Row
first_tables tables rm = fold put_row [] (first_rows_of tables rm)

-- the transaction that a step says rm has committed
abbrev pub commit_at : ℕ → Step → Option TxParts
commit_at rm step = option_and_then (changed_to is_committed_view) (change_at rm step)

-- the table of rm: its first contents, then, one after the other, the writes that each transaction had when rm committed it
abbrev pub table_told : (first : ℕ → List Row) → ℕ → List Step → List Row
table_told first rm [] = first rm
table_told first rm (step ∷ before) =
    option_map_or (λ tx. with_writes (table_told first rm before) (writes_at (stretches_back (step ∷ before)) rm tx)) (commit_at rm step)
    (table_told first rm before)

-- whether a get of a key showed what the rows have there, with the own last act of its branch over them
abbrev pub shows : List Row → (key : List ℕ) → (own : Act) → (found : Option (List ℕ)) → Bool
shows rows key own found = option_eq bytes_eq found (value_after own (row_at rows key))

-- whether a call was answered rightly, as far as gets go: one that was answered a value or none showed the rows, with the writes of
-- its branch over them
abbrev pub is_call_right : List Row → Option StretchParts → Action → Answer → Bool
is_call_right rows stretch (Get key) (Value bytes) = shows rows key (own_act (writes_in stretch) key) (Some bytes)
is_call_right rows stretch (Get key) NoValue = shows rows key (own_act (writes_in stretch) key) None
is_call_right rows stretch action answer = true

-- the same of an event, where these are the tables, and this was done in branches
abbrev pub is_event_right : (table : ℕ → List Row) → Stretches → Event → Answer → Bool
is_event_right table done (Ask (R rm) (Call x action)) answer = is_call_right (table rm) (done rm x) action answer
is_event_right table done event answer = true

-- whether a step is right in this, by the lines above it
abbrev pub shows_rightly : (first : ℕ → List Row) → List Step → Step → Bool
shows_rightly first before step = is_event_right (λ rm. table_told first rm before) (stretches_back before) step.event step.answer

-- whether the rows of the resource managers, from this one on, are those of a table each
abbrev pub are_tables : (table : ℕ → List Row) → ℕ → List (List Row) → Bool
are_tables table rm [] = true
are_tables table rm (rows ∷ rest) = pointwise row_eq rows (table rm) && are_tables table (suc rm) rest
