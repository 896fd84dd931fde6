-- One serial order, by looking back over a history, which has the newest first: the transactions in the order of their first commits
-- anywhere, and what they make of tables, one whole transaction after another.
use Rattle.std.specs.Prelude.{ℕ, Bool, false, ◌&&◌, ◌||◌, if◌then◌else◌, List, [], ◌∷◌, ◌++◌, filter, find, fold, Option}
use Rattle.std.specs.List.{list_any}
use Rattle.std.specs.Option.{option_map_or, option_and_then}
use Rattle.xid.specs.Names.{XidParts}
use Rattle.xid.specs.Transactions.{TxParts, tx_eq, xid_at}
use Rattle.safety.specs.Vocabulary.{Row, Step}
use Rattle.protocol.specs.Branches.{BranchView, no_branch, is_write, row_at, value_after}
use Rattle.protocol.specs.Tables.{put_row, with_writes}
use Rattle.history.specs.Lines.{view_back}
use Rattle.history.specs.LookingBack.{branch_by, actions_since, before_vote, writes_in, last_act_on}
use Rattle.history.specs.Writes.{actions_since_start, writes_of, is_committed_view, changed_to}

-- ---- the order

-- the transaction that a step says some resource manager has committed
abbrev pub commit_said : Step → Option TxParts
commit_said step = option_and_then (changed_to is_committed_view) step.now

-- a transaction after others, where it isn't one of them
abbrev pub with_commit : List TxParts → TxParts → List TxParts
with_commit txs tx = if list_any (tx_eq tx) txs then txs else txs ++ tx ∷ []

-- the transactions that some resource manager committed, in the order of the first commit of each
abbrev pub first_commits : List Step → List TxParts
first_commits [] = []
first_commits (step ∷ before) = option_map_or (with_commit (first_commits before)) (commit_said step) (first_commits before)

-- those of them that rm has committed
abbrev pub committed_at : ℕ → List Step → List TxParts
committed_at rm history = filter (λ tx. is_committed_view (view_back rm history tx)) (first_commits history)

-- those that stand before one in a list
abbrev pub those_before : TxParts → List TxParts → List TxParts
those_before tx [] = []
those_before tx (one ∷ txs) = if tx_eq tx one then [] else one ∷ those_before tx txs

-- whether of two transactions this one stands first in a list
abbrev pub stands_first : (tx other : TxParts) → List TxParts → Bool
stands_first tx other txs = option_map_or (tx_eq tx) (find (λ one. tx_eq tx one || tx_eq other one) txs) false

-- ---- conflicts

-- the branch of a transaction at rm, as it was when rm voted prepared
abbrev pub voted_branch : ℕ → List Step → TxParts → BranchView
voted_branch rm history tx =
    option_map_or (λ x. branch_by (actions_since rm x (before_vote rm tx history))) (xid_at tx rm) no_branch

-- whether two branches conflict on a key: both have touched it, and one has put or deleted it
abbrev pub is_conflict : BranchView → BranchView → List ℕ → Bool
is_conflict view other key = (is_write (view.act key) && other.touched key) || (is_write (other.act key) && view.touched key)

-- ---- tables and reads

-- the table of rm, from these first contents, after some transactions, one whole transaction after another
abbrev pub serial_table : (first : List Row) → ℕ → List Step → List TxParts → List Row
serial_table first rm history txs = fold (λ rows tx. with_writes rows (writes_of rm history tx)) (fold put_row [] first) txs

-- what the serial run shows at a key to the branch x of a transaction at rm, which has done so much before: all transactions before its
-- own, and over them its own earlier writes
abbrev pub serial_read : (first : List Row) → ℕ → (history before : List Step) → TxParts → XidParts → List ℕ → Option (List ℕ)
serial_read first rm history before tx x key =
    value_after (last_act_on (writes_in (actions_since_start rm x before)) key)
    (row_at (serial_table first rm history (those_before tx (first_commits history))) key)
