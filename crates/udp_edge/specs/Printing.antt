-- What is printed.
use Rattle.std.specs.Prelude.{◌≡◌, ◌⊎◌, ℕ, List, [], ◌∷◌, ◌++◌, Option, Some, None, codes, decimal}
use Rattle.std.specs.Io.KnownBytes.{Appends, Keeps}
use Rattle.clap.specs.Words.{Text}
use Rattle.xid.specs.declared.refusals.Refusal.{Refusal}
use Rattle.xid.specs.declared.refusals.Refusal.TheVariants.{BadScript, NoMemory}
use Rattle.xid.specs.Refusals.{number_of}
use Rattle.cluster_run.specs.Runs.{IsRun, RefusesRun}
use Rattle.udp_run.specs.Runs.{IsUdpRun, RefusesUdp}
use Rattle.net_script.specs.TraceReading.{RefusesTrace}
use Rattle.net_script.specs.Writing.{BreaksOff, IsFileRefusal, TriesToAppend}
use Rattle.audit.specs.Faults.{IsJudged}
use Rattle.audit.specs.declared.faults.Question.{Question}
use Rattle.audit.specs.declared.faults.Fault.{Fault}
use Rattle.udp_edge.specs.CommandLines.{AsksFor}
use Rattle.udp_edge.specs.declared.command.Subcommand.{Subcommand}
use Rattle.udp_edge.specs.declared.command.Subcommand.TheVariants.{Run, Udp, Audit}
use Rattle.udp_edge.specs.declared.command.Rejected.{Rejected}
use Rattle.udp_edge.specs.declared.command.Rejected.TheVariants as rejected

-- what the auditor says of a trace with this first fault
abbrev pub verdict_text : Option Fault → List ℕ
verdict_text None = codes "consistent" ++ 10 ∷ []
verdict_text (Some fault) = codes "inconsistent" ++ 10 ∷ []

-- the line of a question that a trace doesn't keep, before the number of the trace's line
abbrev pub question_text : Question → List ℕ
question_text Question.Changes = codes "pcommit: audit: a change is no step of TCommit, line "
question_text Question.Gets = codes "pcommit: audit: a get shows another table, line "
question_text Question.Tables = codes "pcommit: audit: last rows are another table, line "
question_text Question.Order = codes "pcommit: audit: the order of first commits doesn't explain it, line "
question_text Question.Floors = codes "pcommit: audit: a step takes part below a floor, line "

-- the line of a fault
abbrev pub fault_line : Fault → List ℕ
fault_line fault = question_text fault.question ++ decimal fault.line ++ 10 ∷ []

-- what a subcommand makes of the bytes of its file: the text that is printed, and the first fault of an audited trace, if it has one
abbrev pub IsOutput : Subcommand → (bytes : List ℕ) → (found : Option Fault) → (text : List ℕ) → Type 0
IsOutput (Run file) bytes found text = (found ≡ None) × IsRun bytes text
IsOutput (Udp file folder) bytes found text = (found ≡ None) × IsUdpRun bytes text
IsOutput (Audit file) bytes found text = IsJudged bytes found × (text ≡ verdict_text found)

-- why a subcommand refuses the bytes of its file
abbrev pub RefusesBytes : Subcommand → (bytes : List ℕ) → Refusal → Type 0
RefusesBytes (Run file) bytes refusal = RefusesRun bytes refusal
RefusesBytes (Udp file folder) bytes refusal = RefusesUdp bytes refusal
RefusesBytes (Audit file) bytes refusal = RefusesTrace bytes refusal

-- the text of a subcommand over some bytes joins what a writer has
pub record PrintsOf (subcommand : Subcommand) (bytes : List ℕ) (found : Option Fault) (old new : Option (List ℕ)) : Type 0 where
  pub text : List ℕ
  pub output : IsOutput subcommand bytes found text
  pub printed : Appends old new text

-- a beginning of it, and not all of it, joins what a writer has
pub record BreaksOffIn (subcommand : Subcommand) (bytes : List ℕ) (old new : Option (List ℕ)) : Type 0 where
  pub found : Option Fault
  pub text : List ℕ
  pub output : IsOutput subcommand bytes found text
  pub broken : BreaksOff old new text

-- why a subcommand is refused over some bytes, and what a writer has then: nothing new where the bytes are refused, and a beginning of
-- the text where that can't be written, or a run is out of memory once its first piece was
abbrev pub Refuses : Subcommand → (bytes : List ℕ) → Refusal → (old new : Option (List ℕ)) → Type 0
Refuses subcommand bytes refusal old new =
    (RefusesBytes subcommand bytes refusal × Keeps old new) ⊎ (IsFileRefusal refusal × BreaksOffIn subcommand bytes old new)

-- the text of a subcommand over the bytes of some file joins what a writer has
pub record PrintsFile (subcommand : Subcommand) (found : Option Fault) (old new : Option (List ℕ)) : Type 0 where
  pub bytes : List ℕ
  pub prints : PrintsOf subcommand bytes found old new

-- why a subcommand is refused, and what a writer has then: nothing new where its file can't be read, or what is left over the bytes of
-- some file
abbrev pub RefusesFile : Subcommand → Refusal → (old new : Option (List ℕ)) → Type 0
RefusesFile subcommand refusal old new =
    (IsFileRefusal refusal × Keeps old new) ⊎ ((bytes : List ℕ) × Refuses subcommand bytes refusal old new)

-- the line of a refusal, with the line at fault where there is one
abbrev pub refusal_line : Refusal → List ℕ
refusal_line (BadScript line) = codes "pcommit: refused 7 line " ++ decimal line ++ 10 ∷ []
refusal_line refusal = codes "pcommit: refused " ++ decimal (number_of refusal) ++ 10 ∷ []

-- the line for a command line that is none of the program's
abbrev pub usage_line : List ℕ
usage_line = codes "pcommit: usage: pcommit run FILE | udp FILE DIR | audit FILE" ++ 10 ∷ []

-- the line for a command line that isn't carried out
abbrev pub rejection_line : Rejected → List ℕ
rejection_line rejected.Usage = usage_line
rejection_line rejected.NoMemory = refusal_line NoMemory

-- the words ask for a subcommand, and this was carried out
pub record CarriesOut (words : List Text) (found : Option Fault) (out_old out_new : Option (List ℕ)) : Type 0 where
  pub subcommand : Subcommand
  pub asks : AsksFor words subcommand
  pub prints : PrintsFile subcommand found out_old out_new

-- the words ask for an audit, which was carried out, and the line of the trace's first fault is on `err`
pub record FindsFault (words : List Text) (out_old out_new err_old err_new : Option (List ℕ)) : Type 0 where
  pub fault : Fault
  pub carried : CarriesOut words (Some fault) out_old out_new
  pub line : TriesToAppend err_old err_new (fault_line fault)

-- the words ask for a subcommand, which was refused
pub record RefusesWords (words : List Text) (refusal : Refusal) (out_old out_new : Option (List ℕ)) : Type 0 where
  pub subcommand : Subcommand
  pub asks : AsksFor words subcommand
  pub refuses : RefusesFile subcommand refusal out_old out_new

-- a command line that ends in a refusal: which, its line on `err`, and what it leaves on `out`. Where the words ask for nothing, memory
-- ran out
pub record IsRefused (words : List Text) (out_old out_new err_old err_new : Option (List ℕ)) : Type 0 where
  pub refusal : Refusal
  pub line : TriesToAppend err_old err_new (refusal_line refusal)
  pub cause : ((refusal ≡ NoMemory) × Keeps out_old out_new) ⊎ RefusesWords words refusal out_old out_new
