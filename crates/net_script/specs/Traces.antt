-- The one text of a trace.
use Rattle.std.specs.Prelude.{ℕ, suc, List, [], ◌∷◌, ◌++◌, codes, decimal, Option, Some, None}
use Rattle.std.specs.List.{flat_map}
use Rattle.std.specs.Option.{option_map_or}
use Rattle.wire.specs.Decoding.{message_at}
use Rattle.net_script.specs.Basics.{tx_text, NodeId, R, Row, Answer, Change, Sent, Told, Step, Sizes, Table, Entry, Trace}
use Rattle.net_script.specs.Lines.{node_text, floor_text}
use Rattle.net_script.specs.Events.{event_words}
use Rattle.net_script.specs.Items.{sizes_words, rows_words, contents_words}
use Rattle.net_script.specs.Answers.{view_text, answer_words}
use Rattle.net_script.specs.Messages.{message_words}

-- a space before each word
abbrev pub spaced_words : List (List ℕ) → List ℕ
spaced_words ws = flat_map (λ word. 32 ∷ word) ws

-- one space between words
abbrev pub joined_words : List (List ℕ) → List ℕ
joined_words [] = []
joined_words (word ∷ ws) = word ++ spaced_words ws

-- a line of these words
abbrev pub line_text : List (List ℕ) → List ℕ
line_text ws = joined_words ws ++ 10 ∷ []

-- the first rows of a resource manager
abbrev pub table_line : Table → List ℕ
table_line t = line_text (codes "table" ∷ contents_words t)

-- the words of a changed view after the first
abbrev pub change_words : Change → List (List ℕ)
change_words change = node_text (R change.rm) ∷ tx_text change.tx ∷ view_text change.view ∷ []

-- the view that an event changed, if it changed one
abbrev pub change_text : Option Change → List ℕ
change_text None = []
change_text (Some change) = line_text (codes "now" ∷ change_words change)

-- the words of a datagram that was sent after the first
abbrev pub sent_words : Sent → List (List ℕ)
sent_words sent = decimal sent.number ∷ node_text sent.sender ∷ node_text sent.receiver ∷ message_words sent.message

-- a datagram that was sent
abbrev pub sent_line : Sent → List ℕ
sent_line sent = line_text (codes "sent" ∷ sent_words sent)

-- the line of a datagram by the bytes that spell its message; none where they spell none
abbrev pub datagram_line : (number : ℕ) (sender receiver : NodeId) (bytes : List ℕ) → List ℕ
datagram_line number sender receiver bytes = option_map_or (λ message.
    sent_line (record { number = number; sender = sender; receiver = receiver; message = message })) (message_at bytes) []

-- the words of a notice that was told after the first
abbrev pub notice_words : Told → List (List ℕ)
notice_words told = decimal told.number ∷ node_text (R told.manager) ∷ node_text told.receiver ∷ floor_text told.floor ∷ []

-- a notice that was told
abbrev pub notice_line : Told → List ℕ
notice_line told = line_text (codes "told" ∷ notice_words told)

-- the words of a datagram taken by a node, over sockets
abbrev pub serve_words : NodeId → List (List ℕ)
serve_words node = codes "serve" ∷ node_text node ∷ []

-- what happened, and its answer behind an arrow
abbrev pub answered_line : List (List ℕ) → Answer → List ℕ
answered_line happened answer = line_text (happened ++ codes "->" ∷ answer_words answer)

-- what happened and its answer, the view that it changed, and what was sent
abbrev pub outcome_text : List (List ℕ) → Answer → Option Change → List Sent → List ℕ
outcome_text happened answer now sent = answered_line happened answer ++ change_text now ++ flat_map sent_line sent

-- an event and what came of it
abbrev pub step_text : Step → List ℕ
step_text step = outcome_text (event_words step.event) step.answer step.now step.sent ++ flat_map notice_line step.told

-- an entry
abbrev pub entry_text : Entry → List ℕ
entry_text (Entry.Step step) = step_text step
entry_text (Entry.Serve node answer now sent) = outcome_text (serve_words node) answer now sent

-- the rows of a resource manager at the end
abbrev pub final_line : ℕ → List Row → List ℕ
final_line rm rows = line_text (codes "final" ∷ node_text (R rm) ∷ rows_words rows)

-- those of the resource managers from this one on
abbrev pub final_lines : ℕ → List (List Row) → List ℕ
final_lines rm [] = []
final_lines rm (rows ∷ rest) = final_line rm rows ++ final_lines (suc rm) rest

-- the beginning of a trace: the cluster and the first tables
abbrev pub head_text : Sizes → List Table → List ℕ
head_text sizes tables = line_text (codes "cluster" ∷ sizes_words sizes) ++ flat_map table_line tables

-- the text of a trace: its beginning, what happened, and the rows at the end
abbrev pub trace_text : Trace → List ℕ
trace_text t = head_text t.sizes t.tables ++ flat_map entry_text t.entries ++ final_lines 0 t.finals
