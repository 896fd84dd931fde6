-- Datagrams of which a line tells, without their transaction, and what is heard of a line.
use Rattle.std.specs.Prelude.{◌≡◌, ℕ, true, List, Option, Some, None, Result, Ok, Err}
use Rattle.net_script.specs.Basics.{Stop, TxParts, Sent}
use Rattle.net_script.specs.declared.told.ToldSent.{ToldSent}
use Rattle.net_script.specs.declared.said.Heard.{Heard}
use Rattle.net_script.specs.declared.trace_lines.TraceLine.{TraceLine}
use Rattle.net_script.specs.declared.trace_lines.TraceLine.TheVariants.{Datagram}
use Rattle.net_script.specs.Spelling.{Finds}
use Rattle.net_script.specs.Messages.{kind_of}
use Rattle.net_script.specs.Traces.{sent_words}
use Rattle.net_script.specs.TraceLines.{IsSent, IsTraceLine, trace_line_text}

-- the datagram, with its transaction
abbrev pub sent_of : TxParts → ToldSent → Sent
sent_of tx told = record {
  number = told.number;
  sender = told.sender;
  receiver = told.receiver;
  message = kind_of tx told.said;
}

-- the words tell of this datagram, with the transaction that is known
abbrev pub IsTold : Option TxParts → List (List ℕ) → ToldSent → Type 0
IsTold (Some tx) ws told = IsSent (sent_of tx told) × (ws ≡ sent_words (sent_of tx told))
IsTold None ws told = ⊥

-- what is read of the words of a datagram, whose transaction is then the one that is known
abbrev pub TellsSent : Option TxParts → List (List ℕ) → Result ToldSent Stop → Type 0
TellsSent known ws (Ok told) = IsTold known ws told
TellsSent known ws (Err stop) = Finds {X = Sent} true IsSent sent_words ws (Err stop)

-- what is heard of a line that says this, where this transaction is known then
abbrev pub IsHeard : Option TxParts → Heard → TraceLine → Type 0
IsHeard known (Heard.Line line) said = said ≡ line
IsHeard (Some tx) (Heard.Datagram told) said = said ≡ Datagram (sent_of tx told)
IsHeard None (Heard.Datagram told) said = ⊥

-- a datagram is one with the transaction that is known
abbrev pub IsWhole : Option TxParts → Heard → Type 0
IsWhole (Some tx) (Heard.Datagram told) = IsSent (sent_of tx told)
IsWhole None (Heard.Datagram told) = ⊥
IsWhole known (Heard.Line line) = Unit {0}

-- what is heard of a text
abbrev pub HearsText : Option TxParts → List ℕ → Result Heard Stop → Type 0
HearsText known line (Ok heard) = (said : TraceLine) × IsHeard known heard said × IsTraceLine said × (line ≡ trace_line_text said)
HearsText known line (Err stop) = Finds {X = TraceLine} true IsTraceLine trace_line_text line (Err stop)
