-- Which texts are those of traces, and which line of one that is none is the first at fault.
use Rattle.std.specs.Prelude.{◌≡◌, ◌≢◌, ◌⊎◌, ℕ, ◌+◌, ◌<◌, ◌≤◌, true, false, ◌==◌, if◌then◌else◌, List, [], ◌∷◌, ◌++◌, length, Option}
use Rattle.std.specs.List.{All, AllPairs, onto_first}
use Rattle.std.specs.Option.{ForSome}
use Rattle.net_script.specs.Basics.{Refusal, NoMemory, BadScript, BadConfig, Answer, Change, Sent, Entry, Trace}
use Rattle.net_script.specs.Events.{IsNode, IsEvent}
use Rattle.net_script.specs.Items.{IsSizes, IsContents, is_in_limits}
use Rattle.net_script.specs.Answers.{IsAnswer}
use Rattle.net_script.specs.Scripts.{FailsAt}
use Rattle.net_script.specs.Traces.{trace_text}
use Rattle.net_script.specs.TraceLines.{IsChange, IsSent, IsNotice, AreFinalRows}

-- ---- traces

-- what may come of an event: any answer, a changed view or none, any datagrams
pub record IsResult (answer : Answer) (now : Option Change) (sent : List Sent) : Type 0 where
  pub answer_is : IsAnswer answer
  pub change : ForSome now IsChange
  pub datagrams : All IsSent sent

-- an event, which may tell any notices, or a serve, with what came of it
abbrev pub IsEntry : Entry → Type 0
IsEntry (Entry.Step step) = IsEvent step.event × IsResult step.answer step.now step.sent × All IsNotice step.told
IsEntry (Entry.Serve node answer now sent) = IsNode node × IsResult answer now sent

-- a trace, or the beginning of one: tables are of the cluster's resource managers, at most one for each, and so are the last rows, in
-- their order; a resource manager's number is at most 255
pub record IsBegun (t : Trace) : Type 0 where
  pub sizes : IsSizes t.sizes
  pub tables : All IsContents t.tables
  pub managers : All (λ table. table.rm < t.sizes.rms) t.tables
  pub once : AllPairs (λ a b. a.rm ≢ b.rm) t.tables
  pub entries : All IsEntry t.entries
  pub finals : All AreFinalRows t.finals
  pub few : length t.finals ≤ t.sizes.rms
  pub named : length t.finals ≤ 256

-- a trace: it has the last rows of each resource manager
pub record IsTrace (t : Trace) : Type 0 where
  pub begun : IsBegun t
  pub whole : length t.finals ≡ t.sizes.rms

-- ---- texts

-- the lines of a text, each with its LF; the last may lack it
abbrev pub ended_lines : List ℕ → List (List ℕ)
ended_lines [] = []
ended_lines (byte ∷ rest) = if byte == 10 then (10 ∷ []) ∷ ended_lines rest else onto_first byte (ended_lines rest)

-- lines with which the text of some trace begins, or of one that may lack last rows
pub record CanBeginTrace (ls : List (List ℕ)) : Type 0 where
  pub trace : Trace
  pub valid : IsBegun trace
  pub more : List (List ℕ)
  pub begins : ended_lines (trace_text trace) ≡ ls ++ more

-- all lines are right, but some are missing at the end
pub record LacksLines (bytes : List ℕ) : Type 0 where
  pub can : CanBeginTrace (ended_lines bytes)
  pub short : (t : Trace) → IsTrace t → bytes ≢ trace_text t

-- the first line at fault, from 1; where lines are missing at the end it is the one after the last
abbrev pub IsTraceFault : List ℕ → ℕ → Type 0
IsTraceFault bytes n = FailsAt CanBeginTrace (ended_lines bytes) n ⊎ (LacksLines bytes × (n ≡ length (ended_lines bytes) + 1))

-- the bytes are the text of a trace of a cluster within the limits
pub record SpellsTrace (bytes : List ℕ) (t : Trace) : Type 0 where
  pub valid : IsTrace t
  pub limits : is_in_limits t.sizes ≡ true
  pub text : bytes ≡ trace_text t

-- the bytes are the text of a trace of a cluster outside the limits
pub record IsTooLarge (bytes : List ℕ) : Type 0 where
  pub trace : Trace
  pub valid : IsTrace trace
  pub limits : is_in_limits trace.sizes ≡ false
  pub text : bytes ≡ trace_text trace

-- why a trace is refused
abbrev pub RefusesTrace : List ℕ → Refusal → Type 0
RefusesTrace bytes e =
    (e ≡ NoMemory) ⊎ ((line : ℕ) × (e ≡ BadScript line) × IsTraceFault bytes line) ⊎ ((e ≡ BadConfig) × IsTooLarge bytes)
