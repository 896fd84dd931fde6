-- The trace of a run is one that a reader takes.
use Rattle.std.proofs.Common.{◌≡◌, ◌∙◌, ℕ, true, false, List, length, map, inl, inr, sym, ap, subst, arith}
use Rattle.std.proofs.lemmas.Bool.{both_ways}
use Rattle.std.proofs.lemmas.List.Elements.{All-from_recursion, recursion_from_All}
use Rattle.std.proofs.lemmas.List.FromFn.{length-map-range_with_len}
use Rattle.safety.specs.Vocabulary.{Row}
use Rattle.protocol.specs.Effects.{Config}
use Rattle.protocol.specs.Nodes.{first_rows}
use Rattle.protocol.specs.Worlds.{table_at}
use Rattle.floors.specs.Runs.{floored_opening}
use Rattle.floors.specs.Worlds.{floored_trace}
use Rattle.net_script.specs.Basics.{Refusal, NoMemory}
use Rattle.net_script.specs.declared.values.Entry.{Entry}
use Rattle.net_script.specs.declared.values.Script.{Script}
use Rattle.net_script.specs.declared.values.Sizes.{Sizes}
use Rattle.net_script.specs.declared.values.Table.{Table}
use Rattle.net_script.specs.declared.values.Trace.{Trace}
use Rattle.net_script.specs.Items.{IsCommand}
use Rattle.net_script.specs.Items as items
use Rattle.net_script.specs.Scripts.{IsScript}
use Rattle.net_script.specs.TraceReading.{IsTrace, IsTraceFault, RefusesTrace, SpellsTrace}
use Rattle.net_script.proofs.ReaderLemmas.{one_text, text_has_no_fault}
use Rattle.net_script.proofs.DraftLemmas.{trace as traced}
use Rattle.cluster_run.specs.Runs.{IsRun}
use Rattle.cluster_run.specs.Traces.{config_of, each_manager, last_world}
use Rattle.run_traces.specs.Machine.{CanBeTold}
use Rattle.run_traces.specs.Numbers.{HasNumbers}
use Rattle.run_traces.proofs.Commands.{all_named}
use Rattle.run_traces.proofs.Events.{finals_told, steps_told}
use Rattle.run_traces.proofs.Floors.{good_opening}
use Rattle.run_traces.proofs.Limits.{few_managers, first_keep, limited, within_limits}

module _ (bytes output : List ℕ) (run : IsRun bytes output) where
  abbrev script : Script
  script = run.script

  abbrev config : Config
  config = config_of script

  valid : IsScript script
  valid = run.spelled.valid

  -- the trace as it is made
  abbrev pub made : Trace
  made = traced script.sizes script.tables (map Entry.Step (floored_trace config (floored_opening config) run.is.happened))
      (each_manager (table_at config (last_world config run.is.happened).machine) script.sizes.rms)

  pub made_so : made ≡ run.is.trace
  made_so =
      let is = run.is.is_trace in
      let t = run.is.trace in
      ap (λ (sizes : Sizes). traced sizes made.tables made.entries made.finals) (sym is.sizes)
      ∙ ap (λ (tables : List Table). traced t.sizes tables made.entries made.finals) (sym is.tables)
      ∙ ap (λ (entries : List Entry). traced t.sizes t.tables entries made.finals) (sym is.entries)
      ∙ ap (λ (finals : List (List Row)). traced t.sizes t.tables t.entries finals) (sym is.finals)

  module _ (numbers : HasNumbers run) where
    can : CanBeTold config run.is.happened
    can =
        let limits = limited script run.is.limits in
        let first = first_keep script valid in
        record {
          limits = limits;
          rows = λ rm. All-from_recursion items.IsRow (first_rows config rm) (first rm);
          events = all_named config (record { acceptors = limits.acceptors }) limits first (floored_opening config) (good_opening config)
              script.commands run.is.happened (recursion_from_All IsCommand script.commands valid.commands) run.is.done numbers.few;
          few = numbers.few;
          few_notices = numbers.few_notices;
        }

    counted : length made.finals ≡ script.sizes.rms
    counted = length-map-range_with_len (table_at config (last_world config run.is.happened).machine) 0 script.sizes.rms

    made_is : IsTrace made
    made_is =
        let few = few_managers script.sizes run.is.limits in
        record {
          begun = record {
            sizes = valid.sizes;
            tables = valid.tables;
            managers = valid.managers;
            once = valid.once;
            entries = steps_told config run.is.happened can;
            finals = finals_told config run.is.happened can;
            few = omega (arith, counted);
            named = omega (arith, counted, few);
          };
          whole = counted;
        }

    -- the output spells the trace of the run
    pub reads : SpellsTrace output run.is.trace
    reads = record {
      valid = subst IsTrace made_so made_is;
      limits = subst (λ (t : Trace). items.is_in_limits t.sizes ≡ true) made_so (within_limits script.sizes run.is.limits);
      text = run.is.text;
    }

-- bytes spell one trace
pub one_spelled : (bytes : List ℕ) (one other : Trace) → SpellsTrace bytes one → SpellsTrace bytes other → one ≡ other
one_spelled bytes one other is also = one_text one other is.valid.begun also.valid.begun (sym is.text ∙ also.text)

-- what spells a trace is refused for want of memory alone
pub never_refused : (bytes : List ℕ) (t : Trace) → SpellsTrace bytes t → (e : Refusal) → RefusesTrace bytes e → e ≡ NoMemory
never_refused bytes t is e (inl memory) = memory
never_refused bytes t is e (inr (inl bad)) =
    absurd (text_has_no_fault t bad.0 is.valid (subst (λ (text : List ℕ). IsTraceFault text bad.0) is.text bad.2))
never_refused bytes t is e (inr (inr (same, large))) =
    let one : large.trace ≡ t = one_text large.trace t large.valid.begun is.valid.begun (sym large.text ∙ is.text) in
    absurd (both_ways (items.is_in_limits t.sizes) (subst (λ (u : Trace). items.is_in_limits u.sizes ≡ false) one large.limits) is.limits)
