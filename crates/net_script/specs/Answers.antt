-- What an event may be answered in a trace, and the words of an answer.
use Rattle.std.specs.Prelude.{ℕ, List, [], ◌∷◌, map, codes, decimal}
use Rattle.std.specs.Fmt.{signed_decimal}
use Rattle.std.specs.List.{All}
use Rattle.net_script.specs.Basics.{IsBytes, IsXid, xid_text, code_number, number_of, XaCode, Refusal, Standing, View}
use Rattle.net_script.specs.Basics.{Answer, Done, Code, Value, NoValue, Xids, Stands, Refused}
use Rattle.net_script.specs.Lines.{bytes_text}

-- ---- what is in range

-- a refusal that an event may be answered: 2 to 6, 8 to 12, 14, 15, 17 and 18
abbrev pub IsTold : Refusal → Type 0
IsTold Refusal.BadTx = Unit {0}
IsTold Refusal.BadMessage = Unit {0}
IsTold Refusal.Damaged = Unit {0}
IsTold Refusal.RecordFault = Unit {0}
IsTold Refusal.NoBallot = Unit {0}
IsTold Refusal.Down = Unit {0}
IsTold Refusal.Busy = Unit {0}
IsTold Refusal.Full = Unit {0}
IsTold Refusal.NoMemory = Unit {0}
IsTold Refusal.PortFault = Unit {0}
IsTold Refusal.Forged = Unit {0}
IsTold Refusal.NoSuch = Unit {0}
IsTold Refusal.Forgotten = Unit {0}
IsTold Refusal.InUse = Unit {0}
IsTold refusal = ⊥

-- an answer that a trace may tell of
abbrev pub IsAnswer : Answer → Type 0
IsAnswer Done = Unit {0}
IsAnswer (Code code) = Unit {0}
IsAnswer (Value bytes) = IsBytes bytes
IsAnswer NoValue = Unit {0}
IsAnswer (Xids xids) = All IsXid xids
IsAnswer (Stands standing) = Unit {0}
IsAnswer (Refused refusal) = IsTold refusal

-- ---- the words

-- where a transaction stands
abbrev pub standing_text : Standing → List ℕ
standing_text Standing.Unknown = codes "unknown"
standing_text Standing.Undecided = codes "undecided"
standing_text Standing.Working = codes "working"
standing_text Standing.Prepared = codes "prepared"
standing_text Standing.Committed = codes "committed"
standing_text Standing.Aborted = codes "aborted"

-- a view, as it is answered too
abbrev pub view_text : View → List ℕ
view_text View.Working = codes "working"
view_text View.Prepared = codes "prepared"
view_text View.Committed = codes "committed"
view_text View.Aborted = codes "aborted"

-- the first word of an answer
abbrev pub answer_word : Answer → List ℕ
answer_word Done = codes "ok"
answer_word (Code code) = signed_decimal (code_number code)
answer_word (Value bytes) = codes "value"
answer_word NoValue = codes "none"
answer_word (Xids xids) = codes "xids"
answer_word (Stands standing) = standing_text standing
answer_word (Refused refusal) = codes "refused"

-- the words of an answer after its first
abbrev pub answer_args : Answer → List (List ℕ)
answer_args Done = []
answer_args (Code code) = []
answer_args (Value bytes) = bytes_text bytes ∷ []
answer_args NoValue = []
answer_args (Xids xids) = map xid_text xids
answer_args (Stands standing) = []
answer_args (Refused refusal) = decimal (number_of refusal) ∷ []

-- the words of an answer
abbrev pub answer_words : Answer → List (List ℕ)
answer_words answer = answer_word answer ∷ answer_args answer

-- ---- for the readers of answers

-- the number of a code, digit by digit
abbrev pub code_text : XaCode → List ℕ
code_text XaCode.Ok = codes "0"
code_text XaCode.RbRollback = codes "100"
code_text XaCode.Nota = codes "-4"
code_text XaCode.Inval = codes "-5"
code_text XaCode.Proto = codes "-6"
code_text XaCode.RmFail = codes "-7"
code_text XaCode.DupId = codes "-8"
