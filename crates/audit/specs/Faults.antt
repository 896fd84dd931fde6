-- Which question a trace doesn't keep, and the first line of its text at which it doesn't.
use Rattle.std.specs.Prelude.{◌≡◌, ℕ, ◌<◌, Bool, true, false, not, ◌||◌, ◌==◌, List, [], ◌∷◌, ◌++◌, length, find, Option, Some, None}
use Rattle.net_script.specs.declared.trace_lines.TraceLine.{TraceLine}
use Rattle.net_script.specs.declared.trace_lines.TraceLine.TheVariants.{Changed}
use Rattle.net_script.specs.Traces.{trace_text}
use Rattle.net_script.specs.TraceLines.{lines_of}
use Rattle.net_script.specs.TraceReading.{IsBegun, SpellsTrace}
use Rattle.history.specs.SerialOrder.{first_commits}
use Rattle.net_script.specs.declared.values.Trace.{Trace}
use Rattle.audit.specs.Told.{history_of, each_step, moves_rightly}
use Rattle.audit.specs.Stretches.{stretches_back}
use Rattle.audit.specs.ToldTables.{first_tables, table_told, shows_rightly, are_tables}
use Rattle.audit.specs.Floors.{stays_above}
use Rattle.audit.specs.Consistent.{committed_back, is_order_kept, is_consistent}
use Rattle.audit.specs.declared.faults.Question.{Question}
use Rattle.audit.specs.declared.faults.Fault.{Fault}

-- whether a trace so far keeps what a question asks; for one serial order it is asked from the first of the last rows on
abbrev pub keeps : Question → Trace → Bool
keeps Question.Changes t = each_step moves_rightly (history_of t.entries)
keeps Question.Gets t = each_step (shows_rightly (first_tables t.tables)) (history_of t.entries)
keeps Question.Tables t = are_tables (λ rm. table_told (first_tables t.tables) rm (history_of t.entries)) 0 t.finals
keeps Question.Order t =
    length t.finals == 0
    || is_order_kept (first_tables t.tables) (stretches_back (history_of t.entries)) (committed_back (history_of t.entries))
    (first_commits (history_of t.entries)) t.finals
keeps Question.Floors t = each_step (stays_above t.sizes.rms) (history_of t.entries)

-- the questions, in the order in which they are asked
abbrev pub questions : List Question
questions = Question.Changes ∷ Question.Gets ∷ Question.Tables ∷ Question.Order ∷ Question.Floors ∷ []

-- the first question that a trace so far doesn't keep, if there is one
abbrev pub first_failed : Trace → Option Question
first_failed t = find (λ question. not (keeps question t)) questions

-- so many first lines of some bytes tell this trace so far
pub record Tells (bytes : List ℕ) (count : ℕ) (so_far : Trace) : Type 0 where
  pub valid : IsBegun so_far
  pub counted : length (lines_of so_far) ≡ count
  pub rest : List ℕ
  pub text : bytes ≡ trace_text so_far ++ rest

-- so many first lines of some bytes tell a trace so far that keeps all questions
pub record HasNoFault (bytes : List ℕ) (count : ℕ) : Type 0 where
  pub so_far : Trace
  pub told : Tells bytes count so_far
  pub none : first_failed so_far ≡ None

-- with this line the trace so far doesn't keep this question, and with fewer lines it keeps all
pub record IsFirstFault (bytes : List ℕ) (fault : Fault) : Type 0 where
  pub so_far : Trace
  pub told : Tells bytes fault.line so_far
  pub fails : first_failed so_far ≡ Some fault.question
  pub before : (count : ℕ) → 0 < count → count < fault.line → HasNoFault bytes count

-- what is found in the text of a trace: nothing exactly where it is consistent, else its first fault
abbrev pub IsFound : (bytes : List ℕ) → Trace → Option Fault → Type 0
IsFound bytes t None = is_consistent t ≡ true
IsFound bytes t (Some fault) = (is_consistent t ≡ false) × IsFirstFault bytes fault

-- bytes spell a trace, in which this is found
pub record IsJudged (bytes : List ℕ) (found : Option Fault) : Type 0 where
  pub trace : Trace
  pub spelled : SpellsTrace bytes trace
  pub verdict : IsFound bytes trace found

-- the question, floors aside, that a line can be the first not to keep, where it tells of something that happened
abbrev pub question_of : TraceLine → Question
question_of (Changed change) = Question.Changes
question_of said = Question.Gets
