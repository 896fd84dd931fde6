-- An auditor of the text of a run finds nothing.
use Rattle.std.proofs.Common.{◌≡◌, ◌∙◌, ℕ, suc, Bool, true, false, if◌then◌else◌, List, [], ◌∷◌, map, Option, Some, None, refl, sym, ap}
use Rattle.std.proofs.Common.{subst, reverse, arith}
use Rattle.std.proofs.Math.Path.{fun_ext}
use Rattle.std.specs.Prelude.{◌==◌, ◌≢◌, fold}
use Rattle.std.specs.List.{All, AllByRecursion, AllPairs, range_with_len}
use Rattle.std.proofs.lemmas.Bool.{and_from, both_ways, eqb-true, ne_eqb}
use Rattle.std.proofs.lemmas.List.Elements.{recursion_from_All}
use Rattle.safety.specs.Vocabulary.{Row, Step}
use Rattle.protocol.specs.Effects.{Config}
use Rattle.protocol.specs.Nodes.{first_rows}
use Rattle.protocol.specs.Tables.{put_row}
use Rattle.protocol.specs.Worlds.{World, Occurrence, opening, table_at, world_after}
use Rattle.floors.specs.Runs.{floored_opening}
use Rattle.floors.specs.Worlds.{floored_trace}
use Rattle.history.specs.Lines.{history}
use Rattle.net_script.specs.declared.values.Entry.{Entry}
use Rattle.net_script.specs.declared.values.Script.{Script}
use Rattle.net_script.specs.declared.values.Table.{Table}
use Rattle.net_script.specs.declared.values.Trace.{Trace}
use Rattle.net_script.specs.Scripts.{IsScript}
use Rattle.audit.specs.Consistent.{is_consistent, is_history_consistent}
use Rattle.audit.specs.Faults.{IsJudged}
use Rattle.audit.specs.Floors.{stays_above}
use Rattle.audit.specs.ToldTables as told
use Rattle.audit.specs.ToldTables.{first_tables}
use Rattle.audit.specs.Told.{each_step, history_of, step_of}
use Rattle.audit.specs.declared.faults.Fault.{Fault}
use Rattle.cluster_run.specs.Runs.{IsRun}
use Rattle.cluster_run.specs.Traces.{config_of, first_rows_of, last_world, run_history}
use Rattle.cluster_run.proofs.Beside.{IsBeside, beside}
use Rattle.cluster_run.proofs.Floored.{run_is}
use Rattle.run_traces.specs.Numbers.{HasNumbers}
use Rattle.run_traces.proofs.AlikeAudits.{consistent_alike}
use Rattle.run_traces.proofs.FloorsTold.{all_above}
use Rattle.run_traces.proofs.Limits.{rows_are}
use Rattle.run_traces.proofs.Reading.{made, made_so, one_spelled, reads}

-- ---- first tables, as an auditor looks them up

-- one line after another: the rows of a resource manager so far
abbrev looked : ℕ → List Row → Table → List Row
looked rm rows table = if table.rm == rm then table.rows else rows

passed : (rm : ℕ) (tables : List Table) (rows : List Row) → AllByRecursion (λ (table : Table). rm ≢ table.rm) tables
    → fold (looked rm) rows tables ≡ rows
passed rm [] rows others = refl
passed rm (table ∷ tables) rows others =
    ap (λ (b : Bool). fold (looked rm) (if b then table.rows else rows) tables) (ne_eqb table.rm rm (λ e. others.0 (sym e)))
    ∙ passed rm tables rows others.1

-- of tables of which no two are of one resource manager, the first and those after it
others_apart : (table : Table) (tables : List Table) → AllPairs (λ (a b : Table). a.rm ≢ b.rm) (table ∷ tables)
    → All (λ (other : Table). table.rm ≢ other.rm) tables
others_apart table tables once = λ k d lt. once 0 (suc k) d (omega arith) (omega (arith, lt))

later_apart : (table : Table) (tables : List Table) → AllPairs (λ (a b : Table). a.rm ≢ b.rm) (table ∷ tables)
    → AllPairs (λ (a b : Table). a.rm ≢ b.rm) tables
later_apart table tables once = λ i j d lt within. once (suc i) (suc j) d (omega (arith, lt)) (omega (arith, within))

lookup_by : (rm : ℕ) (table : Table) (tables : List Table) → AllPairs (λ (a b : Table). a.rm ≢ b.rm) (table ∷ tables)
    → told.first_rows_of tables rm ≡ first_rows_of tables rm → (b : Bool) → (table.rm == rm) ≡ b
    → fold (looked rm) (if b then table.rows else []) tables ≡ (if b then table.rows else first_rows_of tables rm)
lookup_by rm table tables once rest true own =
    passed rm tables table.rows
    (subst (λ (n : ℕ). AllByRecursion (λ (other : Table). n ≢ other.rm) tables) (eqb-true table.rm rm own)
    (recursion_from_All (λ (other : Table). table.rm ≢ other.rm) tables (others_apart table tables once)))
lookup_by rm table tables once rest false other = rest

-- at most one line is about a resource manager
same_lookup : (rm : ℕ) (tables : List Table) → AllPairs (λ (a b : Table). a.rm ≢ b.rm) tables
    → told.first_rows_of tables rm ≡ first_rows_of tables rm
same_lookup rm [] once = refl
same_lookup rm (table ∷ tables) once =
    lookup_by rm table tables once (same_lookup rm tables (later_apart table tables once)) (table.rm == rm) refl

first_same : (s : Script) → IsScript s → (rm : ℕ) → fold put_row [] (first_rows (config_of s) rm) ≡ first_tables s.tables rm
first_same s is rm = ap (fold put_row []) (rows_are s is rm ∙ sym (same_lookup rm s.tables is.once))

-- ---- the history

steps_same : (steps : List Step) → map step_of (map Entry.Step steps) ≡ steps
steps_same [] = refl
steps_same (step ∷ steps) = ap (λ (rest : List Step). step ∷ rest) (steps_same steps)

-- the first contents of a cluster's tables
abbrev first_of : Config → ℕ → List Row
first_of config rm = fold put_row [] (first_rows config rm)

-- each trace of the machine is consistent, floors aside, as a law of `audit` says
abbrev pub AreConsistent : Type 0
AreConsistent =
    (config : Config) (events : List Occurrence)
    → is_history_consistent (λ rm. fold put_row [] (first_rows config rm)) (history config events)
    (map (table_at config (world_after config (opening config) events)) (range_with_len 0 config.managers)) ≡ true

module _ (law : AreConsistent) (bytes output : List ℕ) (run : IsRun bytes output) where
  abbrev config : Config
  config = config_of run.script

  abbrev steps : List Step
  steps = run_history config run.is.happened

  abbrev finals : List (List Row)
  finals = (made bytes output run).finals

  history_same : history_of (made bytes output run).entries ≡ steps
  history_same = ap reverse (steps_same (floored_trace config (floored_opening config) run.is.happened))

  -- the first four questions, of the run and of the machine's run beside it
  history_consistent : is_history_consistent (first_of config) steps finals ≡ true
  history_consistent =
      let so : IsBeside config run.is.happened = beside config run.is.happened in
      consistent_alike (first_of config) steps (history config so.events) so.alike finals
      (subst (λ (w : World). is_history_consistent (first_of config) (history config so.events)
      (map (table_at config w) (range_with_len 0 config.managers)) ≡ true) so.leads (law config so.events))

  -- the fifth
  floors_kept : each_step (stays_above config.managers) steps ≡ true
  floors_kept = all_above config (last_world config run.is.happened) steps (run_is config run.is.happened)

  made_consistent : is_consistent (made bytes output run) ≡ true
  made_consistent =
      let read = history_of (made bytes output run).entries in
      and_from (is_history_consistent (first_tables run.script.tables) read finals) (each_step (stays_above run.script.sizes.rms) read)
      (ap (λ (all : List Step). is_history_consistent (first_tables run.script.tables) all finals) history_same
      ∙ ap (λ (first : ℕ → List Row). is_history_consistent first steps finals) (sym (fun_ext (first_same run.script run.spelled.valid)))
      ∙ history_consistent)
      (ap (each_step (stays_above run.script.sizes.rms)) history_same ∙ floors_kept)

  is_so : is_consistent run.is.trace ≡ true
  is_so = subst (λ (t : Trace). is_consistent t ≡ true) (made_so bytes output run) made_consistent

  module _ (numbers : HasNumbers run) where
    pub judged : IsJudged output None
    judged = record { trace = run.is.trace; spelled = reads bytes output run numbers; verdict = is_so }

    -- and so nothing else is found
    pub judged_only : (found : Option Fault) → IsJudged output found → found ≡ None
    judged_only None is = refl
    judged_only (Some fault) is =
        let one = one_spelled output is.trace run.is.trace is.spelled (reads bytes output run numbers) in
        absurd (both_ways (is_consistent run.is.trace) (subst (λ (t : Trace). is_consistent t ≡ false) one is.verdict.0) is_so)
