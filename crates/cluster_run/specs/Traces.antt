-- The trace of a script as a run in which each node has a floor, and what it says when one looks back over it. What happens in the cluster,
-- and which nodes it happens to, is left open here.
use Rattle.std.specs.Prelude.{◌≡◌, ◌≢◌, true, ℕ, ◌==◌, if◌then◌else◌, false, List, [], ◌∷◌, ◌++◌, map, filter_map, reverse, Some}
use Rattle.std.specs.List.{list_any, range_with_len}
use Rattle.xid.specs.Names.{XidParts}
use Rattle.xid.specs.Transactions.{TxParts, xid_at}
use Rattle.safety.specs.Vocabulary.{Get, Row, Step}
use Rattle.protocol.specs.Branches.{get_answer}
use Rattle.protocol.specs.Effects.{Config}
use Rattle.protocol.specs.Holds.{IsIn}
use Rattle.protocol.specs.Nodes.{first_rows}
use Rattle.protocol.specs.Worlds.{Occurrence, table_at}
use Rattle.floors.specs.Worlds.{FlooredWorld, floored_trace, floored_world_after}
use Rattle.floors.specs.Runs.{floored_opening}
use Rattle.cluster_run.specs.Answers.{AreAnsweredHere}
use Rattle.history.specs.Calls.{call_done}
use Rattle.history.specs.LookingBack.{is_start, done_at}
use Rattle.history.specs.SerialOrder.{first_commits, committed_at, stands_first, voted_branch, is_conflict, serial_table, serial_read}
use Rattle.history.specs.Writes.{commit_order, table_back}
use Rattle.net_script.specs.declared.values.Sizes.{Sizes}
use Rattle.net_script.specs.declared.values.Table.{Table}
use Rattle.net_script.specs.declared.values.Script.{Script}
use Rattle.net_script.specs.declared.values.Entry.{Entry}
use Rattle.net_script.specs.declared.values.Trace.{Trace}

-- the first contents of a resource manager's table: none where no line of the script gives it
abbrev pub first_rows_of : List Table → ℕ → List Row
first_rows_of [] rm = []
first_rows_of (table ∷ tables) rm = if table.rm == rm then table.rows else first_rows_of tables rm

-- one for each of so many resource managers
abbrev pub each_manager : {X : Type 0} → (ℕ → X) → ℕ → List X
each_manager f count = map f (range_with_len 0 count)

-- a cluster of these sizes and first tables
abbrev pub config_for : Sizes → List Table → Config
config_for sizes tables = record {
  acceptors = sizes.acceptors;
  leaders = sizes.leaders;
  managers = sizes.rms;
  bundled = sizes.bundled;
  tables = each_manager (first_rows_of tables) sizes.rms;
}

-- the cluster of a script
abbrev pub config_of : Script → Config
config_of s = config_for s.sizes s.tables

-- the steps of what happened in a cluster, each node of which has a floor, the newest first
abbrev pub run_history : Config → List Occurrence → List Step
run_history config happened = reverse (floored_trace config (floored_opening config) happened)

-- the cluster's world after all that happened in it
abbrev pub last_world : Config → List Occurrence → FlooredWorld
last_world config happened = floored_world_after config (floored_opening config) happened

-- the trace of a script in whose cluster this happened: its steps are those that these events make in a world with floors, and its last
-- tables are those of the world then
pub record IsTraceOf (s : Script) (happened : List Occurrence) (t : Trace) : Type 0 where
  pub sizes : t.sizes ≡ s.sizes
  pub tables : t.tables ≡ s.tables
  pub entries : t.entries ≡ map Entry.Step (floored_trace (config_of s) (floored_opening (config_of s)) happened)
  pub finals : t.finals ≡ each_manager (table_at (config_of s) (last_world (config_of s) happened).machine) s.sizes.rms

-- a trace of which, looking back over it, each answer of a resource manager is one that the steps before it leave to it, of a name below
-- its floor that of what is over, and each last table is the one that all steps make
pub record LooksBack (config : Config) (happened : List Occurrence) (t : Trace) : Type 0 where
  pub answers : AreAnsweredHere config (run_history config happened)
  pub tables_are : t.finals
      ≡ each_manager (λ rm. table_back (first_rows config rm) rm (run_history config happened)) config.managers

-- what a get was answered in the branch of a transaction that some manager has committed, since that branch was last started, is what
-- the serial run shows there: the table after all transactions before its own, with the branch's own earlier writes over it
abbrev pub AreReadsSerial : Config → List Step → Type 0
AreReadsSerial config all =
    (rm : ℕ) (x : XidParts) (tx : TxParts) (key : List ℕ) (later before : List Step) (step : Step)
    → all ≡ later ++ step ∷ before → call_done rm x step.event step.answer ≡ Some (Get key)
    → list_any is_start (filter_map (done_at rm x) later) ≡ false → xid_at tx rm ≡ Some x → IsIn (first_commits all) tx
    → step.answer ≡ get_answer (serial_read (first_rows config rm) rm all before tx x key)

-- of two transactions that some manager has committed, and whose branches at one manager conflicted on a key when it voted prepared, the
-- one that this manager committed first was committed first anywhere
abbrev pub AreConflictsOrdered : List Step → Type 0
AreConflictsOrdered all =
    (rm : ℕ) (tx other : TxParts) (key : List ℕ) → IsIn (first_commits all) tx → IsIn (first_commits all) other → tx ≢ other
    → is_conflict (voted_branch rm all tx) (voted_branch rm all other) key ≡ true
    → stands_first tx other (commit_order rm all) ≡ true → stands_first tx other (first_commits all) ≡ true

-- one serial order, that of the first commits anywhere, explains each last table of a trace, and each read of a committed transaction;
-- and each manager keeps to it where two transactions conflict
pub record IsSerial (config : Config) (happened : List Occurrence) (t : Trace) : Type 0 where
  pub conflicts : AreConflictsOrdered (run_history config happened)
  pub tables_are : t.finals
      ≡ each_manager (λ rm. let all = run_history config happened in serial_table (first_rows config rm) rm all (committed_at rm all))
      config.managers
  pub reads : AreReadsSerial config (run_history config happened)
