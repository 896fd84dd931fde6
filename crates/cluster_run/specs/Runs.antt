-- What a script's run is: what its commands make happen, where each node has a floor, the text of that, and what looking back over it says.
use Rattle.std.specs.Prelude.{◌≡◌, ◌⊎◌, ℕ, Bool, false, true, List, Option}
use Rattle.std.specs.Io.KnownBytes.{Appends, Keeps}
use Rattle.xid.specs.declared.refusals.Refusal.{Refusal}
use Rattle.xid.specs.declared.refusals.Refusal.TheVariants.{NoMemory, BadConfig}
use Rattle.cluster_run.specs.Happenings.{AreOfMemory, AreDoneBy}
use Rattle.cluster_run.specs.Headlines.{AreSafe}
use Rattle.cluster_run.specs.Traces.{config_of, run_history, IsTraceOf, LooksBack, IsSerial}
use Rattle.protocol.specs.Worlds.{Occurrence}
use Rattle.floors.specs.Runs.{floored_opening}
use Rattle.node_core.specs.Configs.{are_sizes}
use Rattle.net_script.specs.declared.values.Sizes.{Sizes}
use Rattle.net_script.specs.declared.values.Script.{Script}
use Rattle.net_script.specs.declared.values.Trace.{Trace}
use Rattle.net_script.specs.Scripts.{SpellsScript, Refuses}
use Rattle.net_script.specs.Traces.{trace_text}
use Rattle.net_script.specs.Writing.{BreaksOff, IsFileRefusal}

-- whether there may be so many nodes of each kind
abbrev pub is_in_limits : Sizes → Bool
is_in_limits s = are_sizes s.acceptors s.leaders s.rms

-- the output is the text of the trace of what a script's commands make happen in its cluster, which is within the limits, where no
-- record fails of itself. The trace looks back over itself; it keeps, at each of its steps, to the specification of transaction commit;
-- and one serial order explains it
pub record IsRunOf (script : Script) (output : List ℕ) : Type 0 where
  pub limits : is_in_limits script.sizes ≡ true
  pub happened : List Occurrence
  pub done : AreDoneBy (config_of script) (floored_opening (config_of script)) script.commands happened
  pub faults : AreOfMemory happened
  pub trace : Trace
  pub is_trace : IsTraceOf script happened trace
  pub text : output ≡ trace_text trace
  pub looks_back : LooksBack (config_of script) happened trace
  pub safe : AreSafe (run_history (config_of script) happened)
  pub serial : IsSerial (config_of script) happened trace

-- the output is the run of the script that the bytes spell
pub record IsRun (bytes output : List ℕ) : Type 0 where
  pub script : Script
  pub spelled : SpellsScript bytes script
  pub is : IsRunOf script output

-- why sizes are refused: they are outside the limits, or there is no memory for what follows
abbrev pub RefusesSizes : Sizes → Refusal → Type 0
RefusesSizes sizes e = (e ≡ NoMemory) ⊎ ((e ≡ BadConfig) × (is_in_limits sizes ≡ false))

-- why a run is refused: memory, the first line at fault, or, where all lines are right, sizes outside the limits
abbrev pub RefusesRun : List ℕ → Refusal → Type 0
RefusesRun bytes e = Refuses bytes e ⊎ ((script : Script) × SpellsScript bytes script × RefusesSizes script.sizes e)

-- ---- runs that are printed as they go on

-- the text of a script's run joins what a writer has
pub record PrintsRunOf (script : Script) (old new : Option (List ℕ)) : Type 0 where
  pub text : List ℕ
  pub is : IsRunOf script text
  pub printed : Appends old new text

-- a beginning of it, and not all of it, joins what a writer has
pub record BreaksRunOff (script : Script) (old new : Option (List ℕ)) : Type 0 where
  pub text : List ℕ
  pub is : IsRunOf script text
  pub broken : BreaksOff old new text

-- why the run of a script isn't printed whole, and what the writer has then: its sizes are refused, or there is no memory to begin, and
-- nothing was printed; or memory ran out later, or the writer fails, and a beginning of the text was
abbrev pub StopsRunOf : Script → Refusal → (old new : Option (List ℕ)) → Type 0
StopsRunOf script e old new = (RefusesSizes script.sizes e × Keeps old new) ⊎ (IsFileRefusal e × BreaksRunOff script old new)

-- the text of the run of the script that the bytes spell joins what a writer has
pub record PrintsRun (bytes : List ℕ) (old new : Option (List ℕ)) : Type 0 where
  pub text : List ℕ
  pub is : IsRun bytes text
  pub printed : Appends old new text

-- a beginning of it, and not all of it, joins what a writer has
pub record BreaksRun (bytes : List ℕ) (old new : Option (List ℕ)) : Type 0 where
  pub text : List ℕ
  pub is : IsRun bytes text
  pub broken : BreaksOff old new text

-- why a run isn't printed whole, and what the writer has then: the run is refused, and nothing was printed; or memory ran out later, or
-- the writer fails, and a beginning of the text was
abbrev pub StopsRun : List ℕ → Refusal → (old new : Option (List ℕ)) → Type 0
StopsRun bytes e old new = (RefusesRun bytes e × Keeps old new) ⊎ (IsFileRefusal e × BreaksRun bytes old new)
