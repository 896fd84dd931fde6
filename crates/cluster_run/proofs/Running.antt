-- A script's run, from what its parts have made and printed.
use Rattle.std.proofs.Common.{◌≡◌, ◌∙◌, ℕ, ◌<◌, true, List, [], ◌∷◌, ◌++◌, length, map, Option, Result, Ok, Err, refl, sym, ap, subst}
use Rattle.std.proofs.Common.{append_assoc, inl, inr, arith}
use Rattle.std.specs.Io.KnownBytes.{Appends}
use Rattle.std.specs.Prelude.{IfErr, OnOk}
use Rattle.std.proofs.KnownBytes.{Appends-trans}
use Rattle.std.proofs.lemmas.List.Folds.{flat_map-map}
use Rattle.std.proofs.lemmas.List.FromFn.{length-map-range_with_len}
use Rattle.xid.specs.declared.refusals.Refusal.{Refusal}
use Rattle.xid.specs.declared.refusals.Refusal.TheVariants.{NoMemory}
use Rattle.safety.specs.Vocabulary.{Row}
use Rattle.cluster_run.specs.Happenings.{AreOfMemory, AreDoneBy}
use Rattle.cluster_run.specs.Running.{IsRunning, Prints, GoesOn, StopsIn, lines_from, so_far}
use Rattle.cluster_run.specs.Runs.{is_in_limits, IsRunOf, PrintsRunOf, StopsRunOf}
use Rattle.cluster_run.specs.Traces.{config_for, config_of, each_manager, IsTraceOf, last_world}
use Rattle.cluster_run.proofs.Configs.{some_managers}
use Rattle.cluster_run.proofs.Printing.{breaks_off, prints_later, prints_more, short_after}
use Rattle.cluster_run.proofs.Safe.{safe_ever}
use Rattle.cluster_run.proofs.Traces.{is_serial, looks_back}
use Rattle.protocol.specs.Effects.{Config}
use Rattle.protocol.specs.Worlds.{Occurrence, table_at}
use Rattle.floors.specs.Worlds.{FlooredWorld, floored_trace, floored_world_after}
use Rattle.floors.specs.Runs.{floored_opening}
use Rattle.cluster.specs.Clusters.{ClusterParts}
use Rattle.net_script.specs.declared.values.Command.{Command}
use Rattle.net_script.specs.declared.values.Entry.{Entry}
use Rattle.net_script.specs.declared.values.Script.{Script}
use Rattle.net_script.specs.declared.values.Table.{Table}
use Rattle.net_script.specs.declared.values.Trace.{Trace}
use Rattle.net_script.specs.Traces.{entry_text, final_lines, head_text}
use Rattle.net_script.specs.Writing.{WritesText}

-- ---- the text of a run

-- the last rows of each resource manager
abbrev pub last_rows : Script → List Occurrence → List (List Row)
last_rows s happened = each_manager (table_at (config_of s) (last_world (config_of s) happened).machine) s.sizes.rms

-- the text of a script's trace, by what happened
abbrev pub run_text : Script → List Occurrence → List ℕ
run_text s happened =
    head_text s.sizes s.tables ++ lines_from (config_of s) (floored_opening (config_of s)) happened ++ final_lines 0 (last_rows s happened)

-- where events are what its commands make happen, that is its run
run_of : (s : Script) → is_in_limits s.sizes ≡ true → (happened : List Occurrence)
    → AreDoneBy (config_of s) (floored_opening (config_of s)) s.commands happened → AreOfMemory happened → IsRunOf s (run_text s happened)
run_of s limits happened done faults =
    let config = config_of s in
    let steps = floored_trace config (floored_opening config) happened in
    let t : Trace = record { sizes = s.sizes; tables = s.tables; entries = map Entry.Step steps; finals = last_rows s happened } in
    let is : IsTraceOf s happened t = record { sizes = refl; tables = refl; entries = refl; finals = refl } in
    record {
      limits = limits;
      happened = happened;
      done = done;
      faults = faults;
      trace = t;
      is_trace = is;
      text =
          ap (λ (b : List ℕ). head_text s.sizes s.tables ++ b ++ final_lines 0 (last_rows s happened))
          (sym (flat_map-map entry_text Entry.Step steps));
      looks_back = looks_back s happened t is;
      safe = safe_ever config happened;
      serial = is_serial s happened t is;
    }

-- the last lines are some: there is a resource manager
some_lines : (finals : List (List Row)) → 0 < length finals → 0 < length (final_lines 0 finals)
some_lines [] none = absurd (omega (arith, none))
some_lines (rows ∷ rest) some = omega arith

some_last : (s : Script) → is_in_limits s.sizes ≡ true → (happened : List Occurrence) → 0 < length (final_lines 0 (last_rows s happened))
some_last s limits happened =
    let each = table_at (config_of s) (last_world (config_of s) happened).machine in
    some_lines (last_rows s happened)
    (subst (λ (n : ℕ). 0 < n) (sym (length-map-range_with_len each 0 s.sizes.rms)) (some_managers s.sizes limits))

-- ---- what was printed of it

-- a run of which the beginning was written, in the piece
pub record IsBegun (s : Script) (config : Config) (first : ClusterParts) (piece : List ℕ) : Type 0 where
  pub is : config ≡ config_of s
  pub limits : is_in_limits s.sizes ≡ true
  pub running : IsRunning config (floored_opening config) first
  pub head : piece ≡ head_text s.sizes s.tables

-- from values that are those of the script
pub begun_by : (s : Script) (config : Config) (tables : List Table) → config ≡ config_for s.sizes tables → tables ≡ s.tables
    → is_in_limits s.sizes ≡ true → (first : ClusterParts) → IsRunning config (floored_opening config) first → (start piece : List ℕ)
    → start ≡ [] → piece ≡ start ++ head_text s.sizes tables → IsBegun s config first piece
begun_by s config tables config_is tables_is limits first running start piece start_is piece_is = record {
  is = config_is ∙ ap (config_for s.sizes) tables_is;
  limits = limits;
  running = running;
  head = piece_is ∙ ap (λ (t : List ℕ). t ++ head_text s.sizes tables) start_is ∙ ap (head_text s.sizes) tables_is;
}

module _ (s : Script) (config : Config) (first : ClusterParts) (piece : List ℕ) (begun : IsBegun s config first piece)
    (commands : List Command) (are : commands ≡ s.commands) (out : Option (List ℕ)) where
  -- what the commands make happen
  abbrev pub AreDone : Config → FlooredWorld → List Occurrence → Type 0
  AreDone config world happened = AreDoneBy config world commands happened

  running : IsRunning (config_of s) (floored_opening (config_of s)) first
  running = subst (λ (c : Config). IsRunning c (floored_opening c) first) begun.is begun.running

  run_done : (happened : List Occurrence) → AreDone (config_of s) (floored_opening (config_of s)) happened → AreOfMemory happened
      → IsRunOf s (run_text s happened)
  run_done happened done faults =
      run_of s begun.limits happened
      (subst (λ (cs : List Command). AreDoneBy (config_of s) (floored_opening (config_of s)) cs happened) are done) faults

  head_printed : Prints (so_far [] out) (so_far piece out) (head_text s.sizes s.tables)
  head_printed = prints_later [] piece (head_text s.sizes s.tables) out begun.head

  -- printing stops while commands are carried out
  pub stops_in : (new : Option (List ℕ)) (e : Refusal) → StopsIn AreDone first (so_far piece out) new e → StopsRunOf s e out new
  stops_in new e (file, short) =
      let (happened, done, faults, printed) = short (config_of s) (floored_opening (config_of s)) running in
      inr (
        file,
        record {
          text = run_text s happened;
          is = run_done happened done faults;
          broken =
              breaks_off out new (head_text s.sizes s.tables ++ lines_from (config_of s) (floored_opening (config_of s)) happened)
              (final_lines 0 (last_rows s happened))
              (short_after (so_far [] out) (so_far piece out) new (head_text s.sizes s.tables) _ head_printed printed)
              (some_last s begun.limits happened);
        },
      )

  -- after all of them
  pub stops_after : (last : ClusterParts) (body : List ℕ) (new : Option (List ℕ)) (e : Refusal)
      → GoesOn AreDone first last (so_far piece out) (so_far body new) → e ≡ NoMemory → StopsRunOf s e out new
  stops_after last body new e goes no_memory =
      let (happened, done, comes) = goes (config_of s) (floored_opening (config_of s)) running in
      inr (
        inl no_memory,
        record {
          text = run_text s happened;
          is = run_done happened done comes.faults;
          broken =
              breaks_off out new (head_text s.sizes s.tables ++ lines_from (config_of s) (floored_opening (config_of s)) happened)
              (final_lines 0 (last_rows s happened)) (
                body,
                prints_more (so_far [] out) (so_far piece out) (so_far body new) (head_text s.sizes s.tables) _ head_printed
                    comes.prints,
              )
              (some_last s begun.limits happened);
        },
      )

  -- what happened, where the last piece is that of its last lines
  ended : (last : ClusterParts) (body text : List ℕ) (new : Option (List ℕ))
      → GoesOn AreDone first last (so_far piece out) (so_far body new) → (count : ℕ) → count ≡ config.managers → (finals : List (List Row))
      → ((other : Config) (world : FlooredWorld) → IsRunning other world last → count ≡ other.managers
      → finals ≡ each_manager (table_at other world.machine) count)
      → text ≡ body ++ final_lines 0 finals
      → (happened : List Occurrence) × IsRunOf s (run_text s happened) × Prints (so_far [] out) (so_far text new) (run_text s happened)
  ended last body text new goes count count_is finals shown text_is =
      let (happened, done, comes) = goes (config_of s) (floored_opening (config_of s)) running in
      let managers : count ≡ s.sizes.rms = count_is ∙ ap (λ (c : Config). c.managers) begun.is in
      let are_last : finals ≡ last_rows s happened =
      shown (config_of s) (last_world (config_of s) happened) comes.running managers
      ∙ ap (each_manager (table_at (config_of s) (last_world (config_of s) happened).machine)) managers in (
        happened,
        run_done happened done comes.faults,
        prints_more (so_far [] out) (so_far body new) (so_far text new)
            (head_text s.sizes s.tables ++ lines_from (config_of s) (floored_opening (config_of s)) happened)
            (final_lines 0 (last_rows s happened))
            (prints_more (so_far [] out) (so_far piece out) (so_far body new) (head_text s.sizes s.tables) _ head_printed comes.prints)
            (prints_later body text (final_lines 0 (last_rows s happened)) new
            (text_is ∙ ap (λ (rows : List (List Row)). body ++ final_lines 0 rows) are_last)),
      )

  -- the run is printed, or it is told why not
  abbrev pub Ends : {X : Type 0} → Result X Refusal → Option (List ℕ) → Type 0
  Ends (Ok x) new = PrintsRunOf s out new
  Ends (Err e) new = StopsRunOf s e out new

  -- what came of the last piece
  ends : {X : Type 0} (text : List ℕ) (middle new : Option (List ℕ)) (happened : List Occurrence) → IsRunOf s (run_text s happened)
      → Prints (so_far [] out) (so_far text middle) (run_text s happened) → (result : Result X Refusal)
      → WritesText middle new result text → Ends result new
  ends text middle new happened is (written, split, p) (Ok _) q = record {
    text = run_text s happened;
    is = is;
    printed = subst (Appends out new) (sym split) (Appends-trans out middle new written text p q);
  }
  ends text middle new happened is (written, split, p) (Err e) (file, (some, rest, cut, more, q)) = inr (
    file,
    record {
      text = run_text s happened;
      is = is;
      broken = (
        written ++ some,
        rest,
        split ∙ ap (λ (t : List ℕ). written ++ t) cut ∙ sym (append_assoc written some rest),
        more,
        Appends-trans out middle new written some p q,
      );
    },
  )

  -- the same, from what was printed before it
  pub ends_by : {X : Type 0} (last : ClusterParts) (body text : List ℕ) (middle new : Option (List ℕ))
      → GoesOn AreDone first last (so_far piece out) (so_far body middle) → (count : ℕ) → count ≡ config.managers
      → (finals : List (List Row))
      → ((other : Config) (world : FlooredWorld) → IsRunning other world last → count ≡ other.managers
      → finals ≡ each_manager (table_at other world.machine) count)
      → text ≡ body ++ final_lines 0 finals → (result : Result X Refusal) → WritesText middle new result text → Ends result new
  ends_by last body text middle new goes count count_is finals shown text_is result wrote =
      let (happened, is, printed) = ended last body text middle goes count count_is finals shown text_is in
      ends text middle new happened is printed result wrote

  -- after all commands the cluster stands for some world
  pub runs_on : (last : ClusterParts) (body : List ℕ) (new : Option (List ℕ))
      → GoesOn AreDone first last (so_far piece out) (so_far body new) → (world : FlooredWorld) × IsRunning config world last
  runs_on last body new goes =
      let so = goes config (floored_opening config) begun.running in
      (floored_world_after config (floored_opening config) so.0, so.2.running)

  -- what a call ensures that ends so
  pub ends_ok : {X : Type 0} (result : Result X Refusal) (new : Option (List ℕ)) → Ends result new → OnOk result (PrintsRunOf s out new)
  ends_ok (Ok x) new p = p
  ends_ok (Err e) new p = tt

  pub ends_err : {X : Type 0} (result : Result X Refusal) (new : Option (List ℕ)) → Ends result new
      → IfErr result (λ e. StopsRunOf s e out new)
  ends_err (Ok x) new p = tt
  ends_err (Err e) new p = p
