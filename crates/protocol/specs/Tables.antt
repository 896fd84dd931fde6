-- Tables: rows with their keys ascending, and what transactions have made of them.
use Rattle.std.specs.Prelude.{ℕ, not, if◌then◌else◌, List, [], ◌∷◌, filter, filter_map, find, fold, Option, Some, None}
use Rattle.protocol.specs.Basics.{slice_cmp, option_map_or, nat_cmp, is_lt, bytes_eq, tx_eq, TxParts, Fact, Act, Touched}
use Rattle.protocol.specs.Vocabulary.{Row}
use Rattle.protocol.specs.Facts.{branch_bound_by}

-- a row put among rows with their keys ascending, in place of the row of its key
abbrev pub put_row : List Row → Row → List Row
put_row [] row = row ∷ []
put_row (first ∷ rows) row =
    if bytes_eq first.key row.key then row ∷ rows
    else if is_lt (slice_cmp nat_cmp row.key first.key) then row ∷ first ∷ rows
    else first ∷ put_row rows row

-- the rows after a branch's last act on a key
abbrev pub rows_after : List Row → (key : List ℕ) → Act → List Row
rows_after rows key Act.Read = rows
rows_after rows key (Act.Put value) = put_row rows (record { key = key; value = value })
rows_after rows key Act.Del = filter (λ row. not (bytes_eq row.key key)) rows

-- the rows after the writes of a branch
abbrev pub with_writes : List Row → List Touched → List Row
with_writes rows keys = fold (λ before touched. rows_after before touched.key touched.act) rows keys

-- the keys with which a prepared vote on a transaction was stored
abbrev pub keys_voted : List Fact → TxParts → List Touched
keys_voted facts tx = option_map_or (λ bound. bound.keys) (find (λ bound. tx_eq tx bound.tx) (filter_map branch_bound_by facts)) []

-- the transaction that a fact stores as committed
abbrev pub commit_of : Fact → Option TxParts
commit_of (Fact.Committed tx) = Some tx
commit_of fact = None

-- a table: the first contents, then the writes of each committed transaction, in the order of their commits
abbrev pub table : (first : List Row) → List Fact → List Row
table first facts = fold (λ rows tx. with_writes rows (keys_voted facts tx)) (fold put_row [] first) (filter_map commit_of facts)
