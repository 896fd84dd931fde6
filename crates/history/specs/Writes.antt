-- Writes, the order of commits and tables, by looking back over a history, which has the newest first.
use Rattle.std.specs.Prelude.{ℕ, Bool, true, false, not, if◌then◌else◌, List, [], reverse, filter, filter_map, fold, Option, Some, None}
use Rattle.std.specs.List.{take_while}
use Rattle.std.specs.Option.{option_map_or}
use Rattle.xid.specs.Names.{XidParts}
use Rattle.xid.specs.Transactions.{TxParts, xid_at}
use Rattle.protocol.specs.Basics.{Touched}
use Rattle.safety.specs.Vocabulary.{Action, Row, View, Change, Step}
use Rattle.protocol.specs.Facts.{is_prepared_view}
use Rattle.protocol.specs.Managers.{insert_xid}
use Rattle.protocol.specs.Tables.{put_row, with_writes}
use Rattle.history.specs.Lines.{changes_at, view_back}
use Rattle.history.specs.LookingBack.{is_start, writes_in, done_at}

-- the actions that were done in branch x of resource manager rm since it was last started
abbrev pub actions_since_start : ℕ → XidParts → List Step → List Action
actions_since_start rm x history = take_while (λ action. not (is_start action)) (filter_map (done_at rm x) history)

-- the puts and dels that were accepted in x since it was last started, in their order
abbrev pub accepted_writes : ℕ → XidParts → List Step → List Touched
accepted_writes rm x history = reverse (writes_in (actions_since_start rm x history))

-- those in the branch of a transaction
abbrev pub writes_of : ℕ → List Step → TxParts → List Touched
writes_of rm history tx = option_map_or (λ x. accepted_writes rm x history) (xid_at tx rm) []

-- whether a view is committed
abbrev pub is_committed_view : View → Bool
is_committed_view View.Committed = true
is_committed_view other = false

-- the transaction of a change to a view that passes
abbrev pub changed_to : (View → Bool) → Change → Option TxParts
changed_to test change = if test change.view then Some change.tx else None

-- the transactions that rm committed, in their order
abbrev pub commit_order : ℕ → List Step → List TxParts
commit_order rm history = filter_map (changed_to is_committed_view) (reverse (changes_at rm history))

-- the table of rm, from these first contents: one transaction after the other, all of its accepted writes in their order
abbrev pub table_back : (first : List Row) → ℕ → List Step → List Row
table_back first rm history =
    fold (λ rows tx. with_writes rows (writes_of rm history tx)) (fold put_row [] first) (commit_order rm history)

-- the transactions in which rm is prepared, in the order of its votes
abbrev pub prepared_back : ℕ → List Step → List TxParts
prepared_back rm history =
    filter (λ tx. is_prepared_view (view_back rm history tx))
    (filter_map (changed_to is_prepared_view) (reverse (changes_at rm history)))

-- the names of the prepared branches of rm, ascending
abbrev pub names_prepared : ℕ → List Step → List XidParts
names_prepared rm history = fold (λ xs x. insert_xid x xs) [] (filter_map (λ tx. xid_at tx rm) (prepared_back rm history))
