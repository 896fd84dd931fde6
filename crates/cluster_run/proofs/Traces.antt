-- What the trace of a run says when one looks back over it.
use Rattle.std.proofs.Common.{◌≡◌, ◌∙◌, ℕ, ◌+◌, ◌<◌, true, false, List, [], ◌∷◌, ◌++◌, ap, Option, Some, None, refl, sym, subst, nat_lt}
use Rattle.std.proofs.Common.{arith}
use Rattle.std.specs.Prelude.{filter_map}
use Rattle.std.specs.List.{list_any}
use Rattle.std.proofs.lemmas.Bool.{both_ways, lt-ltb}
use Rattle.std.proofs.lemmas.List.{same_lists}
use Rattle.std.proofs.lemmas.List.FromFn.{get_or-map-range_with_len, length-map-range_with_len, map-range_with_len_more}
use Rattle.xid.specs.Transactions.{TxParts}
use Rattle.safety.specs.Vocabulary.{Action, Get, R, Row, Step}
use Rattle.cluster_run.specs.Traces.{config_of, each_manager, run_history, IsTraceOf, last_world, LooksBack, IsSerial}
use Rattle.cluster_run.specs.Traces.{AreConflictsOrdered, AreReadsSerial}
use Rattle.protocol.specs.Branches.{BranchView, get_answer, row_at, value_after}
use Rattle.protocol.specs.Effects.{Config}
use Rattle.protocol.specs.Holds.{IsIn}
use Rattle.protocol.specs.Nodes.{NodeState, first_rows}
use Rattle.protocol.specs.Worlds.{World, Occurrence, node_at, table_at}
use Rattle.history.specs.LookingBack.{done_at, is_start, last_act_on, writes_in}
use Rattle.history.specs.SerialOrder.{committed_at, first_commits, is_conflict, serial_table, stands_first, those_before, voted_branch}
use Rattle.history.specs.Writes.{actions_since_start, table_back}
use Rattle.history.proofs.Runs.{IsRun}
use Rattle.history.proofs.Answering.{inside_stands}
use Rattle.history.proofs.Laws as laws
use Rattle.history.proofs.SerialReads.{reads_serial}
use Rattle.history.proofs.SerialTables.{conflict_ordered, serial_is}
use Rattle.net_script.specs.declared.values.Script.{Script}
use Rattle.net_script.specs.declared.values.Trace.{Trace}
use Rattle.cluster_run.proofs.Alike.{commits_same, committed_same, found_among, order_same, same_done, same_since_start, serial_same}
use Rattle.cluster_run.proofs.Alike.{table_same, voted_same}
use Rattle.cluster_run.proofs.Floored.{IsFlooredRun, Follows, follows, run_is}
use Rattle.cluster_run.proofs.Answering.{answered_here}

-- what holds for each resource manager
pub each_same : {X : Type 0} (f g : ℕ → X) (count : ℕ) → ((rm : ℕ) → rm < count → f rm ≡ g rm)
    → each_manager f count ≡ each_manager g count
each_same f g count same =
    same_lists (each_manager f count) (each_manager g count)
    (length-map-range_with_len f 0 count ∙ sym (length-map-range_with_len g 0 count))
    (λ rm d lt.
    let less : rm < count = subst (λ (n : ℕ). rm < n) (length-map-range_with_len f 0 count) lt in
    get_or-map-range_with_len f 0 count rm rm d less (omega arith) ∙ same rm less
    ∙ sym (get_or-map-range_with_len g 0 count rm rm d less (omega arith)))

-- one manager more
pub one_more : {X : Type 0} (f : ℕ → X) (count : ℕ) (old new : List X) (x : X) → old ≡ each_manager f count → x ≡ f count
    → new ≡ old ++ x ∷ [] → new ≡ each_manager f (count + 1)
one_more {X} f count old new x so is pushed =
    pushed ∙ ap (λ (all : List X). all ++ x ∷ []) so ∙ ap (λ (last : X). each_manager f count ++ last ∷ []) is
    ∙ sym (map-range_with_len_more f 0 count count (omega arith))

-- each manager of the cluster stands in a world that events have led to
standing : (config : Config) (world : World) (before : List Step) (rm : ℕ) → IsRun config world before → rm < config.managers
    → (node : NodeState) × (node_at config world (R rm) ≡ Some node)
standing config world before rm run lt = by (node_at config world (R rm)) refl
  where
    by : (o : Option NodeState) → node_at config world (R rm) ≡ o → (node : NodeState) × (node_at config world (R rm) ≡ Some node)
    by None e = absurd (both_ways (nat_lt rm config.managers) (inside_stands config world before rm run e) (lt-ltb rm config.managers lt))
    by (Some node) e = (node, e)

module _ (s : Script) (happened : List Occurrence) (t : Trace) (is : IsTraceOf s happened t) where
  abbrev config : Config
  config = config_of s

  abbrev all : List Step
  all = run_history config happened

  abbrev last : World
  last = (last_world config happened).machine

  run : IsFlooredRun config (last_world config happened) all
  run = run_is config happened

  -- the machine's run beside it
  beside : Follows config (last_world config happened) all
  beside = follows config (last_world config happened) all run

  -- the tables are those that are made in another way
  tables_by : (made : ℕ → List Row)
      → ((rm : ℕ) (node : NodeState) → node_at config last (R rm) ≡ Some node → table_at config last rm ≡ made rm)
      → t.finals ≡ each_manager made config.managers
  tables_by made same =
      is.finals
      ∙ each_same (table_at config last) made config.managers (λ rm lt.
      let stands = standing config last beside.steps rm beside.run lt in
      same rm stands.0 stands.1)

  looked : (rm : ℕ) (node : NodeState) → node_at config last (R rm) ≡ Some node
      → table_at config last rm ≡ table_back (first_rows config rm) rm all
  looked rm node stands =
      laws.table_looked_back config last beside.steps rm beside.run node stands
      ∙ sym (table_same rm all beside.steps beside.alike (first_rows config rm))

  serial : (rm : ℕ) (node : NodeState) → node_at config last (R rm) ≡ Some node
      → table_at config last rm ≡ serial_table (first_rows config rm) rm all (committed_at rm all)
  serial rm node stands =
      let first = first_rows config rm in
      let steps = beside.steps in
      laws.table_looked_back config last steps rm beside.run node stands ∙ sym (laws.looked_table config last steps rm beside.run first)
      ∙ serial_is config last steps rm beside.run first
      ∙ sym (serial_same rm all steps beside.alike first (committed_at rm steps))
      ∙ ap (serial_table first rm all) (sym (committed_same rm all steps beside.alike))

  commits : first_commits all ≡ first_commits beside.steps
  commits = commits_same all beside.steps beside.alike

  ordered : AreConflictsOrdered all
  ordered rm tx other key one two apart conflict first =
      let steps = beside.steps in
      let alike = beside.alike in
      let there : is_conflict (voted_branch rm steps tx) (voted_branch rm steps other) key ≡ true =
      ap (λ (v : BranchView). is_conflict v (voted_branch rm steps other) key) (sym (voted_same rm all steps alike tx))
      ∙ ap (λ (v : BranchView). is_conflict (voted_branch rm all tx) v key) (sym (voted_same rm all steps alike other)) ∙ conflict in
      subst (λ (txs : List TxParts). stands_first tx other txs ≡ true) (sym commits)
      (conflict_ordered config last steps rm beside.run tx other key (subst (λ (txs : List TxParts). IsIn txs tx) commits one)
      (subst (λ (txs : List TxParts). IsIn txs other) commits two) apart there
      (subst (λ (txs : List TxParts). stands_first tx other txs ≡ true) (order_same rm all steps alike) first))

  read : AreReadsSerial config all
  read rm x tx key later before step split got fresh named among =
      let first = first_rows config rm in
      let found = found_among rm x (Get key) step before got later all beside.steps beside.alike split in
      let newer : list_any is_start (filter_map (done_at rm x) found.newer) ≡ false =
      ap (λ (actions : List Action). list_any is_start actions) (sym (same_done rm x later found.newer found.newer_alike)) ∙ fresh in
      reads_serial config last beside.steps found.newer found.older step rm x tx key beside.run found.split got newer named
      (subst (λ (txs : List TxParts). IsIn txs tx) commits among)
      ∙ ap get_answer
      (ap (λ (actions : List Action). value_after (last_act_on (writes_in actions) key)
      (row_at (serial_table first rm beside.steps (those_before tx (first_commits beside.steps))) key))
      (sym (same_since_start rm x before found.older found.older_alike))
      ∙ ap (λ (rows : List Row). value_after (last_act_on (writes_in (actions_since_start rm x before)) key) (row_at rows key))
      (sym (serial_same rm all beside.steps beside.alike first (those_before tx (first_commits beside.steps)))
      ∙ ap (λ (txs : List TxParts). serial_table first rm all (those_before tx txs)) (sym commits)))

  pub looks_back : LooksBack config happened t
  looks_back = record {
    answers = answered_here config (last_world config happened) all run;
    tables_are = tables_by (λ rm. table_back (first_rows config rm) rm all) looked;
  }

  pub is_serial : IsSerial config happened t
  is_serial = record {
    conflicts = ordered;
    tables_are = tables_by (λ rm. serial_table (first_rows config rm) rm all (committed_at rm all)) serial;
    reads = read;
  }
