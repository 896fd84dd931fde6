-- What one line of a trace says, and its one text.
use Rattle.std.specs.Prelude.{◌≡◌, ◌≢◌, ℕ, ◌<◌, ◌^◌, suc, Bool, true, false, not, ◌==◌, ◌&&◌, if◌then◌else◌, List, [], ◌∷◌, ◌++◌, codes}
use Rattle.std.specs.Prelude.{map, Option, Some, None}
use Rattle.std.specs.Cmp.Lexicographic.{slice_cmp}
use Rattle.std.specs.List.{All, flat_map}
use Rattle.std.specs.Ordering.{nat_cmp, is_lt}
use Rattle.net_script.specs.Basics.{TxParts, IsTx, tx_text, IsMessage, R, Row, Change, Sent, Told, Entry, Trace, TraceLine}
use Rattle.net_script.specs.declared.trace_lines.TraceLine.TheVariants.{Cluster, Contents, Happened, Served, Changed, Datagram}
use Rattle.net_script.specs.declared.trace_lines.TraceLine.TheVariants.{Notice, Final}
use Rattle.net_script.specs.Lines.{node_text}
use Rattle.net_script.specs.Events.{IsNode, IsFloor, IsEvent, event_words}
use Rattle.net_script.specs.Items.{IsSizes, IsRow, IsContents, sizes_words, rows_words, contents_words}
use Rattle.net_script.specs.Answers.{IsAnswer, answer_words}
use Rattle.net_script.specs.Traces.{joined_words, line_text, serve_words, change_words, sent_words, notice_words}

-- ---- what is in range

-- a change of a view that a line may tell of
pub record IsChange (change : Change) : Type 0 where
  pub rm : change.rm < 256
  pub tx : IsTx change.tx

-- a datagram that a line may tell of
pub record IsSent (sent : Sent) : Type 0 where
  pub number : sent.number < 2 ^ 32
  pub sender : IsNode sent.sender
  pub receiver : IsNode sent.receiver
  pub message : IsMessage sent.message

-- a notice that a line may tell of
pub record IsNotice (told : Told) : Type 0 where
  pub number : told.number < 2 ^ 32
  pub manager : told.manager < 256
  pub receiver : IsNode told.receiver
  pub floor : IsFloor told.floor

-- whether the keys of rows ascend strictly, byte by byte
abbrev pub are_ascending : List Row → Bool
are_ascending [] = true
are_ascending (first ∷ []) = true
are_ascending (first ∷ second ∷ rest) = is_lt (slice_cmp nat_cmp first.key second.key) && are_ascending (second ∷ rest)

-- the last rows of a resource manager
pub record AreFinalRows (rows : List Row) : Type 0 where
  pub each : All IsRow rows
  pub ascending : are_ascending rows ≡ true

-- what a line may say
abbrev pub IsTraceLine : TraceLine → Type 0
IsTraceLine (Cluster sizes) = IsSizes sizes
IsTraceLine (Contents table) = IsContents table
IsTraceLine (Happened event answer) = IsEvent event × IsAnswer answer
IsTraceLine (Served node answer) = IsNode node × IsAnswer answer
IsTraceLine (Changed change) = IsChange change
IsTraceLine (Datagram sent) = IsSent sent
IsTraceLine (Notice told) = IsNotice told
IsTraceLine (Final rm rows) = (rm < 256) × AreFinalRows rows

-- ---- the words

-- the words of the last rows of a resource manager after the first
abbrev pub final_words : ℕ → List Row → List (List ℕ)
final_words rm rows = node_text (R rm) ∷ rows_words rows

-- the words of a line
abbrev pub trace_line_words : TraceLine → List (List ℕ)
trace_line_words (Cluster sizes) = codes "cluster" ∷ sizes_words sizes
trace_line_words (Contents table) = codes "table" ∷ contents_words table
trace_line_words (Happened event answer) = event_words event ++ codes "->" ∷ answer_words answer
trace_line_words (Served node answer) = serve_words node ++ codes "->" ∷ answer_words answer
trace_line_words (Changed change) = codes "now" ∷ change_words change
trace_line_words (Datagram sent) = codes "sent" ∷ sent_words sent
trace_line_words (Notice told) = codes "told" ∷ notice_words told
trace_line_words (Final rm rows) = codes "final" ∷ final_words rm rows

-- the one text of a line, without its end
abbrev pub trace_line_text : TraceLine → List ℕ
trace_line_text said = joined_words (trace_line_words said)

-- the same with its end
abbrev pub whole_line : TraceLine → List ℕ
whole_line said = line_text (trace_line_words said)

-- ---- the lines of a trace

-- the line of a changed view, if there is one
abbrev pub changed_lines : Option Change → List TraceLine
changed_lines None = []
changed_lines (Some change) = Changed change ∷ []

-- what happened and what came of it
abbrev pub entry_lines : Entry → List TraceLine
entry_lines (Entry.Step step) =
    Happened step.event step.answer ∷ ((changed_lines step.now ++ map Datagram step.sent) ++ map Notice step.told)
entry_lines (Entry.Serve node answer now sent) = Served node answer ∷ (changed_lines now ++ map Datagram sent)

-- the last rows, from this resource manager on
abbrev pub rows_lines : ℕ → List (List Row) → List TraceLine
rows_lines rm [] = []
rows_lines rm (rows ∷ rest) = Final rm rows ∷ rows_lines (suc rm) rest

-- the lines after the first
abbrev pub later_lines : Trace → List TraceLine
later_lines t = map Contents t.tables ++ (flat_map entry_lines t.entries ++ rows_lines 0 t.finals)

-- all lines
abbrev pub lines_of : Trace → List TraceLine
lines_of t = Cluster t.sizes ∷ later_lines t

-- ---- for the readers of lines

-- whether words that follow a space, or don't, have one space between them and none after them
abbrev pub is_tidy_after : Bool → List ℕ → Bool
is_tidy_after spaced [] = not spaced
is_tidy_after spaced (byte ∷ rest) = if byte == 32 then not spaced && is_tidy_after true rest else is_tidy_after false rest

-- whether a line has words, one space between them, and none before or after them
abbrev pub is_tidy : List ℕ → Bool
is_tidy line = is_tidy_after true line

-- whether a word is a transaction, which is then the one that is known
abbrev pub Knows : Bool → Option TxParts → List ℕ → Type 0
Knows true (Some tx) word = IsTx tx × (word ≡ tx_text tx)
Knows true None word = ⊥
Knows false known word = (tx : TxParts) → IsTx tx → word ≢ tx_text tx

-- what tells of an event: its answer stands behind an arrow
abbrev pub IsOutcome : TraceLine → Type 0
IsOutcome (Happened event answer) = IsEvent event × IsAnswer answer
IsOutcome (Served node answer) = IsNode node × IsAnswer answer
IsOutcome said = ⊥
