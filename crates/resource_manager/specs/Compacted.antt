-- What a resource manager's record means that was made shorter: the rows that its table begins with, and facts.
use Rattle.std.specs.Prelude.{◌≡◌, ◌≤◌, ℕ, suc, Bool, true, false, ◌&&◌, if◌then◌else◌, List, [], ◌∷◌, ◌++◌, filter_map, map, replicate}
use Rattle.std.specs.Prelude.{Option, Some, None, filter, length, sum}
use Rattle.std.specs.List.{list_all, flat_map}
use Rattle.std.specs.Option.{option_map_or}
use Rattle.std.specs.Cmp.Lexicographic.{slice_cmp}
use Rattle.std.specs.Ordering.{nat_cmp, is_lt}
use Rattle.xid.specs.Transactions.{TxParts, xid_at}
use Rattle.wire.specs.Versions.{version_2}
use Rattle.stable_record.specs.declared.fact.FactKind.{FactKind as Fact}
use Rattle.stable_record.specs.declared.fact.Touched.{Touched}
use Rattle.stable_record.specs.declared.entry.EntryKind.{EntryKind as Entry}
use Rattle.stable_record.specs.declared.entry.EntryKind.TheVariants as entries
use Rattle.stable_record.specs.Grammar.{frame}
use Rattle.stable_record.specs.Written.{AreWritten}
use Rattle.protocol.specs.declared.nodes.NodeId.TheVariants.{R}
use Rattle.protocol.specs.declared.rows.Row.{Row}
use Rattle.protocol.specs.Effects.{Config}
use Rattle.protocol.specs.Managers.{Branch, stored_votes, plays_at_manager}
use Rattle.protocol.specs.Nodes.{all_play, first_rows}
use Rattle.protocol.specs.Tables.{keys_voted, table}
use Rattle.branch_table.specs.Outcomes.{keys_named}
use Rattle.resource_manager.specs.Courses.{Stored, stored_in, stored_by, course_in, begun_in}
use Rattle.resource_manager.specs.Managers.{ManagerParts, StandsFor}

-- the entry of a row
abbrev pub row_entry : Row → Entry
row_entry row = entries.Row row.key row.value

-- whether the keys of rows ascend strictly
abbrev pub are_ascending : List Row → Bool
are_ascending [] = true
are_ascending (first ∷ []) = true
are_ascending (first ∷ second ∷ rest) = is_lt (slice_cmp nat_cmp first.key second.key) && are_ascending (second ∷ rest)

-- whether an entry is about a transaction: a fact, or an outcome of the past
abbrev pub is_about_tx : Entry → Bool
is_about_tx (entries.Fact fact) = true
is_about_tx entries.Snapshot = false
is_about_tx (entries.Row key value) = false
is_about_tx (entries.PastCommitted tx) = true
is_about_tx (entries.PastAborted tx) = true

-- the facts that an entry stands for: an outcome of the past for a vote prepared, with no keys, and the outcome
abbrev pub facts_of : Entry → List Fact
facts_of (entries.Fact fact) = fact ∷ []
facts_of entries.Snapshot = []
facts_of (entries.Row key value) = []
facts_of (entries.PastCommitted tx) = Fact.VotePrepared tx [] ∷ Fact.Committed tx ∷ []
facts_of (entries.PastAborted tx) = Fact.VotePrepared tx [] ∷ Fact.Aborted tx ∷ []

-- entries of a record that was made shorter, and what they mean: a snapshot, the rows that the table begins with, ascending, and then
-- entries about transactions, which stand for facts
pub record IsCompacted (all : List Entry) (rows : List Row) (facts : List Fact) : Type 0 where
  pub later : List Entry
  pub all_is : all ≡ entries.Snapshot ∷ (map row_entry rows ++ later)
  pub ascending : are_ascending rows ≡ true
  pub about : list_all is_about_tx later ≡ true
  pub facts_are : facts ≡ flat_map facts_of later

-- the cluster in which the table of a resource manager begins with these rows (only that manager's first contents matter)
abbrev pub beginning_with : Config → ℕ → List Row → Config
beginning_with config number rows = record config { tables = replicate (suc number) rows }

-- ---- the shorter record of facts

-- what is written of a transaction of which these facts are stored, if there are some: its outcome, or its vote. Of one that is
-- prepared these are the keys
abbrev pub entry_of : TxParts → Stored → List Touched → Option Entry
entry_of tx stored keys =
    if stored.committed then Some (entries.PastCommitted tx)
    else if stored.voted_prepared
    then Some (if stored.aborted then entries.PastAborted tx else entries.Fact (Fact.VotePrepared tx keys))
    else if stored.voted_aborted then Some (entries.Fact (Fact.VoteAborted tx))
    else if stored.aborted then Some (entries.Fact (Fact.Aborted tx))
    else None

-- the shorter record of facts: a snapshot of the table that they lead to, and then what is written of each transaction, in the order
-- of their first facts
abbrev pub shorter_entries : List Row → List Fact → List Entry
shorter_entries rows facts =
    entries.Snapshot
    ∷ (map row_entry rows ++ filter_map (λ tx. entry_of tx (stored_in facts tx) (keys_voted facts tx)) (begun_in facts))

-- facts over rows say the same at a resource manager as others over its first contents: whatever is played after them, a resource
-- manager that stands for the one stands for the other, the same facts play, and the shorter record is the same
pub record SaysSame (config : Config) (number : ℕ) (rows : List Row) (kept facts : List Fact) : Type 0 where
  pub stands : (more : List Fact) (m : ManagerParts) (branches : List Branch)
      → StandsFor (beginning_with config number rows) number m (kept ++ more) branches → StandsFor config number m (facts ++ more) branches
  pub fits : (more : List Fact) (fact : Fact) → plays_at_manager number (stored_votes number (kept ++ more)) fact
      ≡ plays_at_manager number (stored_votes number (facts ++ more)) fact
  pub shorter : (more : List Fact) → all_play (beginning_with config number rows) (R number) [] (kept ++ more) ≡ true
      → shorter_entries (table (first_rows (beginning_with config number rows) number) (kept ++ more)) (kept ++ more)
      ≡ shorter_entries (table (first_rows config number) (facts ++ more)) (facts ++ more)

-- how long what entries say of transactions is, in frames as they are written today: a snapshot and its rows aren't counted
abbrev pub about_length : List Entry → ℕ
about_length all = sum (map (λ entry. length (frame version_2 entry)) (filter is_about_tx all))

-- entries are the shorter record of facts, which means facts that play, and say the same. What they say of transactions is no longer than
-- in any entries that stand for the facts, be they facts, or outcomes of the past in a record that was made shorter before
pub record IsShortened (config : Config) (number : ℕ) (facts : List Fact) (all : List Entry) : Type 0 where
  pub all_is : all ≡ shorter_entries (table (first_rows config number) facts) facts
  pub rows : List Row
  pub kept : List Fact
  pub compacted : IsCompacted all rows kept
  pub fits : all_play config (R number) [] kept ≡ true
  pub same : SaysSame config number rows kept facts
  pub no_longer : (before : List Entry) → flat_map facts_of before ≡ facts → about_length all ≤ about_length before

-- the touched keys of the branch that a transaction has here
abbrev pub keys_here : ManagerParts → TxParts → List Touched
keys_here m tx = option_map_or (keys_named m.table.branches) (xid_at tx m.number) []

-- what a resource manager writes of a transaction
abbrev pub entry_at : ManagerParts → TxParts → Option Entry
entry_at m tx = entry_of tx (stored_by (course_in m.courses tx)) (keys_here m tx)

-- what it writes of the whole
abbrev pub entries_at : ManagerParts → List Entry
entries_at m = entries.Snapshot ∷ (map row_entry m.table.rows ++ filter_map (entry_at m) m.courses.begun)

-- bytes are the frames of entries, as they are written today, and these are the shorter record of whatever facts a resource manager stands
-- for
pub record AreShorterFrames (m : ManagerParts) (bytes : List ℕ) : Type 0 where
  pub all : List Entry
  pub written : AreWritten bytes all
  pub shortened : (config : Config) (number : ℕ) (facts : List Fact) (branches : List Branch) → StandsFor config number m facts branches
      → IsShortened config number facts all
