-- The words of messages, as a trace prints them.
use Rattle.std.specs.Prelude.{ℕ, ◌<◌, ◌^◌, List, [], ◌∷◌, ◌++◌, map, codes, decimal, Option, Some, None}
use Rattle.net_script.specs.Basics.{TxParts, IsTx, tx_text, message_tx, Vote, Kind, Prepare, P1a, P1b, P2a, P2b, Commit, Abort, B1a, B1b}
use Rattle.net_script.specs.Basics.{B2b, A, R, InstanceReport, InstanceAccept}
use Rattle.net_script.specs.declared.message_words.Reported.{Reported}
use Rattle.net_script.specs.declared.message_words.Said.{Said}
use Rattle.net_script.specs.Lines.{node_text}
use Rattle.net_script.specs.Spelling.{AreItems}

-- a vote
abbrev pub vote_text : Vote → List ℕ
vote_text Vote.Prepared = codes "prepared"
vote_text Vote.Aborted = codes "aborted"

-- a report of phase 1b: the ballot accepted last and its vote, or `none`
abbrev pub report_words : Option (ℕ × Vote) → List (List ℕ)
report_words None = codes "none" ∷ []
report_words (Some accepted) = decimal accepted.0 ∷ vote_text accepted.1 ∷ []

-- an instance, and a ballot
abbrev pub ballot_words : ℕ → ℕ → List (List ℕ)
ballot_words rm ballot = node_text (R rm) ∷ decimal ballot ∷ []

-- in an item of a bundle: BAL:VAL
abbrev pub accepted_text : ℕ → Vote → List ℕ
accepted_text ballot vote = decimal ballot ++ 58 ∷ vote_text vote

-- the report of an item: BAL:VAL, or `none`
abbrev pub report_text : Option (ℕ × Vote) → List ℕ
report_text None = codes "none"
report_text (Some accepted) = accepted_text accepted.0 accepted.1

-- an item of phase 1b: its instance, a colon, its report
abbrev pub report_item_text : InstanceReport → List ℕ
report_item_text item = node_text (R item.instance) ++ 58 ∷ report_text item.report

-- an item of phase 2b: its instance, a colon, its ballot and its vote
abbrev pub accept_item_text : InstanceAccept → List ℕ
accept_item_text item = node_text (R item.instance) ++ 58 ∷ accepted_text item.ballot item.vote

-- the first word of a message
abbrev pub message_word : Kind → List ℕ
message_word (Prepare tx) = codes "prepare"
message_word (P1a tx rm ballot) = codes "p1a"
message_word (P1b tx rm ballot report acceptor) = codes "p1b"
message_word (P2a tx rm ballot vote) = codes "p2a"
message_word (P2b tx rm ballot vote acceptor) = codes "p2b"
message_word (Commit tx) = codes "commit"
message_word (Abort tx) = codes "abort"
message_word (Kind.Ask tx rm) = codes "ask"
message_word (B1a tx ballot) = codes "b1a"
message_word (B1b tx ballot acceptor reports) = codes "b1b"
message_word (B2b tx acceptor accepts) = codes "b2b"

-- the words of a message after its transaction
abbrev pub message_args : Kind → List (List ℕ)
message_args (Prepare tx) = []
message_args (P1a tx rm ballot) = ballot_words rm ballot
message_args (P1b tx rm ballot report acceptor) = ballot_words rm ballot ++ report_words report ++ node_text (A acceptor) ∷ []
message_args (P2a tx rm ballot vote) = ballot_words rm ballot ++ vote_text vote ∷ []
message_args (P2b tx rm ballot vote acceptor) = ballot_words rm ballot ++ vote_text vote ∷ node_text (A acceptor) ∷ []
message_args (Commit tx) = []
message_args (Abort tx) = []
message_args (Kind.Ask tx rm) = node_text (R rm) ∷ []
message_args (B1a tx ballot) = decimal ballot ∷ []
message_args (B1b tx ballot acceptor reports) = decimal ballot ∷ node_text (A acceptor) ∷ map report_item_text reports
message_args (B2b tx acceptor accepts) = node_text (A acceptor) ∷ map accept_item_text accepts

-- the words of a message
abbrev pub message_words : Kind → List (List ℕ)
message_words message = message_word message ∷ tx_text (message_tx message) ∷ message_args message

-- ---- for the readers of messages

-- a report whose ballot is a number of 32 bits
abbrev pub FitsReport : Option (ℕ × Vote) → Type 0
FitsReport None = Unit {0}
FitsReport (Some accepted) = accepted.0 < 2 ^ 32

-- an item of phase 1b whose numbers are those of words
pub record FitsReportItem (item : InstanceReport) : Type 0 where
  pub instance : item.instance < 256
  pub report : FitsReport item.report

-- an item of phase 2b whose numbers are those of words
pub record FitsAcceptItem (item : InstanceAccept) : Type 0 where
  pub instance : item.instance < 256
  pub ballot : item.ballot < 2 ^ 32

-- a message, or what has the form of one: its numbers are those of words
abbrev pub FitsKind : Kind → Type 0
FitsKind (Prepare tx) = Unit {0}
FitsKind (P1a tx rm ballot) = (rm < 256) × (ballot < 2 ^ 32)
FitsKind (P1b tx rm ballot report acceptor) = (rm < 256) × (ballot < 2 ^ 32) × FitsReport report × (acceptor < 256)
FitsKind (P2a tx rm ballot vote) = (rm < 256) × (ballot < 2 ^ 32)
FitsKind (P2b tx rm ballot vote acceptor) = (rm < 256) × (ballot < 2 ^ 32) × (acceptor < 256)
FitsKind (Commit tx) = Unit {0}
FitsKind (Abort tx) = Unit {0}
FitsKind (Kind.Ask tx rm) = rm < 256
FitsKind (B1a tx ballot) = ballot < 2 ^ 32
FitsKind (B1b tx ballot acceptor reports) = (ballot < 2 ^ 32) × (acceptor < 256) × AreItems FitsReportItem reports
FitsKind (B2b tx acceptor accepts) = (acceptor < 256) × AreItems FitsAcceptItem accepts

-- what has the form of a message
abbrev pub IsForm : Kind → Type 0
IsForm kind = IsTx (message_tx kind) × FitsKind kind

-- the message that says this of a transaction
abbrev pub kind_of : TxParts → Said → Kind
kind_of tx Said.Prepare = Prepare tx
kind_of tx (Said.P1a rm ballot) = P1a tx rm ballot
kind_of tx (Said.P1b rm ballot report acceptor) = P1b tx rm ballot report acceptor
kind_of tx (Said.P2a rm ballot vote) = P2a tx rm ballot vote
kind_of tx (Said.P2b rm ballot vote acceptor) = P2b tx rm ballot vote acceptor
kind_of tx Said.Commit = Commit tx
kind_of tx Said.Abort = Abort tx
kind_of tx (Said.Ask rm) = Kind.Ask tx rm
kind_of tx (Said.B1a ballot) = B1a tx ballot
kind_of tx (Said.B1b ballot acceptor reports) = B1b tx ballot acceptor reports
kind_of tx (Said.B2b acceptor accepts) = B2b tx acceptor accepts

-- the parts of no transaction: what is said beside one is the same of each
abbrev pub no_tx : TxParts
no_tx = record { format = 0; gtrid = []; branches = [] }

-- the words of a message but for its transaction
abbrev pub said_words : Said → List (List ℕ)
said_words said = message_word (kind_of no_tx said) ∷ message_args (kind_of no_tx said)

-- whose numbers are those of words
abbrev pub FitsSaid : Said → Type 0
FitsSaid said = FitsKind (kind_of no_tx said)

-- the words of phase 1b after its ballot
abbrev pub FitsReported : Reported → Type 0
FitsReported r = FitsReport r.report × (r.acceptor < 256)

-- a report, and the acceptor that gives it
abbrev pub reported_words : Reported → List (List ℕ)
reported_words r = report_words r.report ++ node_text (A r.acceptor) ∷ []
