-- What is asked of a trace: that its changes are steps of TCommit, that gets show the tables that it leads to and its last rows are these,
-- that one serial order explains the last rows and the gets of committed transactions, and that no step takes part below a floor.
use Rattle.std.specs.Prelude.{ℕ, Bool, ◌&&◌, List, filter, fold}
use Rattle.std.specs.List.{list_all}
use Rattle.xid.specs.Transactions.{TxParts, participants}
use Rattle.safety.specs.Vocabulary.{Step, Row}
use Rattle.net_script.specs.declared.values.Trace.{Trace}
use Rattle.audit.specs.declared.stretch.Shown.{Shown}
use Rattle.protocol.specs.Tables.{with_writes}
use Rattle.history.specs.SerialOrder.{first_commits, those_before}
use Rattle.history.specs.Lines.{view_back}
use Rattle.history.specs.Writes.{is_committed_view}
use Rattle.audit.specs.Told.{history_of, each_step, moves_rightly}
use Rattle.audit.specs.Stretches.{Stretches, stretches_back, branch_at, gets_in, writes_at}
use Rattle.audit.specs.ToldTables.{first_tables, table_told, shows, shows_rightly, are_tables}
use Rattle.audit.specs.Floors.{stays_above}

-- the table of rm after some transactions, one whole transaction after another
abbrev pub serial_table : (first : ℕ → List Row) → Stretches → ℕ → List TxParts → List Row
serial_table first done rm txs = fold (λ rows tx. with_writes rows (writes_at done rm tx)) (first rm) txs

-- whether gets showed some rows, with the own last acts of their branch over them
abbrev pub are_shown : List Row → List Shown → Bool
are_shown rows gets = list_all (λ (get : Shown). shows rows get.key get.own get.found) gets

-- whether the gets of the branches of a transaction showed the tables after some transactions
abbrev pub read_after : (first : ℕ → List Row) → Stretches → List TxParts → TxParts → Bool
read_after first done txs tx =
    list_all (λ rm. are_shown (serial_table first done rm txs) (gets_in (branch_at done rm tx))) (participants tx)

-- whether the gets of each transaction of an order showed the tables after all transactions before it
abbrev pub reads_are_serial : (first : ℕ → List Row) → Stretches → List TxParts → Bool
reads_are_serial first done order = list_all (λ tx. read_after first done (those_before tx order) tx) order

-- whether one serial order explains the last rows, each table by the transactions that its resource manager has committed, and the gets
abbrev pub is_order_kept : (first : ℕ → List Row) → Stretches → (committed : ℕ → TxParts → Bool) → List TxParts → (finals : List (List Row))
    → Bool
is_order_kept first done committed order finals =
    reads_are_serial first done order
    && are_tables (λ rm. serial_table first done rm (filter (committed rm) order)) 0 finals

-- whether rm has committed a transaction
abbrev pub committed_back : List Step → ℕ → TxParts → Bool
committed_back history rm tx = is_committed_view (view_back rm history tx)

-- whether a history with these last rows is consistent, floors aside
abbrev pub is_history_consistent : (first : ℕ → List Row) → List Step → (finals : List (List Row)) → Bool
is_history_consistent first history finals =
    each_step (λ before step. shows_rightly first before step && moves_rightly before step) history
    && are_tables (λ rm. table_told first rm history) 0 finals
    && is_order_kept first (stretches_back history) (committed_back history) (first_commits history) finals

-- whether a trace is consistent
abbrev pub is_consistent : Trace → Bool
is_consistent t =
    is_history_consistent (first_tables t.tables) (history_of t.entries) t.finals
    && each_step (stays_above t.sizes.rms) (history_of t.entries)
