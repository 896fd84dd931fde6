-- The lines of a trace that tell of events, each with its label and with what it adds to the picture.
use Rattle.std.specs.Prelude.{ℕ, ◌+◌, ◌-◌, ◌^◌, Bool, true, false, not, ◌||◌, min, if◌then◌else◌, List, [], ◌∷◌, ◌++◌, length, codes, fold}
use Rattle.std.specs.Prelude.{Option, Some, None}
use Rattle.std.specs.List.{list_any}
use Rattle.std.specs.Option.{is_some, option_map_or}
use Rattle.xid.specs.declared.codes.XaCode.{XaCode}
use Rattle.xid.specs.declared.refusals.Refusal.{Refusal}
use Rattle.xid.specs.Transactions.{TxParts, tx_eq}
use Rattle.net_script.specs.Basics.{message_tx, Answer, Code, Refused}
use Rattle.net_script.specs.Basics.{Event, Ask, Deliver, Lose, Cut, Noise, Tear, Restart, Compact, Raise, Hear, Replace, R}
use Rattle.net_script.specs.Basics.{Change, Sent, Told}
use Rattle.net_script.specs.declared.values.Entry.{Entry}
use Rattle.net_script.specs.Events.{event_word}
use Rattle.picture.specs.declared.elements.Mark.{Mark}
use Rattle.picture.specs.declared.rows.Row.{Row}
use Rattle.picture.specs.declared.rows.What.{What}
use Rattle.picture.specs.declared.rows.What.TheVariants.{At, Delivers, Loses, Misses, Changes, Sends}
use Rattle.picture.specs.Labels.{change_label, notice_label, sent_label}

-- whether a code is that of an error
abbrev pub is_error_code : XaCode → Bool
is_error_code XaCode.Ok = false
is_error_code XaCode.RbRollback = false
is_error_code code = true

-- whether an event wasn't done
abbrev pub is_error : Answer → Bool
is_error (Refused refusal) = true
is_error (Code code) = is_error_code code
is_error answer = false

-- the mark of an event, which is this one where it was done
abbrev pub mark_of : Mark → Answer → Mark
mark_of done answer = if is_error answer then Mark.Refusal else done

-- whether there was no such datagram, or no such part of it
abbrev pub is_missing : Answer → Bool
is_missing (Refused Refusal.NoSuch) = true
is_missing answer = false

-- whether an answer, or a view that changed, shows that a node took a datagram that it was handed whole. One that is down (8) stays as it
-- was; where memory is wanted (11) nothing is stored or sent; where the record fails (5) a fact stays only if its whole frame is there, and
-- a view that it changed shows that
abbrev pub is_taken : Answer → Option Change → Bool
is_taken answer now = not (is_error answer) || is_some now

-- what the delivery of a datagram adds, or that of its first bytes
abbrev pub delivered : ℕ → Bool → Answer → What
delivered number is_taken answer = if is_missing answer then Misses else Delivers number is_taken (mark_of Mark.Done answer)

-- what the loss of a datagram adds
abbrev pub lost : ℕ → Answer → What
lost number answer = if is_error answer then Misses else Loses number

-- the number by which a picture has a notice, which is drawn as a datagram is: it is behind those of all datagrams
abbrev pub notice_number : ℕ → ℕ
notice_number number = 2 ^ 32 + number

-- what an event adds, by its answer and the view that it changed. The first bytes of a datagram nobody takes
abbrev pub what_of : Event → Answer → Option Change → What
what_of (Ask node request) answer now = At node (mark_of Mark.Done answer)
what_of (Deliver number) answer now = delivered number (is_taken answer now) answer
what_of (Lose number) answer now = lost number answer
what_of (Cut number bytes) answer now = delivered number false answer
what_of (Noise node bytes) answer now = At node (mark_of Mark.Done answer)
what_of (Tear node bytes) answer now = At node (mark_of Mark.Tear answer)
what_of (Restart node) answer now = At node (mark_of Mark.Restart answer)
what_of (Compact node) answer now = At node (mark_of Mark.Compaction answer)
what_of (Raise rm floor) answer now = At (R rm) (mark_of Mark.Compaction answer)
what_of (Hear number) answer now = delivered (notice_number number) (is_taken answer now) answer
what_of (Replace node floor) answer now = At node (mark_of Mark.Restart answer)

-- ---- rows

-- the number of the line so many lines after the first; beyond 2^32-1 all have that number
abbrev pub line_at : ℕ → ℕ → ℕ
line_at first place = min (first + place) (2 ^ 32 - 1)

-- a row more
abbrev pub with_row : ℕ → List Row → List ℕ → What → List Row
with_row first rows label what = rows ++ (record { line = line_at first (length rows); label = label; what = what }) ∷ []

-- the row of a changed view more, if there is one
abbrev pub with_change : ℕ → Bool → List Row → Option Change → List Row
with_change first several rows None = rows
with_change first several rows (Some change) = with_row first rows (change_label several change) (Changes change.rm change.view)

-- the row of a datagram more
abbrev pub with_sent : ℕ → Bool → List Row → Sent → List Row
with_sent first several rows sent = with_row first rows (sent_label several sent) (Sends sent.number sent.sender sent.receiver)

-- the row of a notice more
abbrev pub with_notice : ℕ → List Row → Told → List Row
with_notice first rows told =
    with_row first rows (notice_label told) (Sends (notice_number told.number) (R told.manager) told.receiver)

-- the rows of what came of an event more
abbrev pub with_outcome : ℕ → Bool → List Row → Option Change → List Sent → List Row
with_outcome first several rows now sent = fold (with_sent first several) (with_change first several rows now) sent

-- the rows of what happened more
abbrev pub with_entry : ℕ → Bool → List Row → Entry → List Row
with_entry first several rows (Entry.Step step) =
    fold (with_notice first)
    (with_outcome first several (with_row first rows (event_word step.event) (what_of step.event step.answer step.now)) step.now step.sent)
    step.told
with_entry first several rows (Entry.Serve node answer now sent) =
    with_outcome first several (with_row first rows (codes "serve") (At node (mark_of Mark.Done answer))) now sent

-- ---- transactions

-- the transaction of which a view or the first datagram tells
abbrev pub told_tx : Option Change → List Sent → Option TxParts
told_tx (Some change) sent = Some change.tx
told_tx None [] = None
told_tx None (sent ∷ rest) = Some (message_tx sent.message)

-- the transaction of which what came of an event tells
abbrev pub tx_of : Entry → Option TxParts
tx_of (Entry.Step step) = told_tx step.now step.sent
tx_of (Entry.Serve node answer now sent) = told_tx now sent

-- whether what came of an event tells of another transaction
abbrev pub is_of_other : TxParts → Entry → Bool
is_of_other tx entry = option_map_or (λ other. not (tx_eq other tx)) (tx_of entry) false

-- whether a trace tells of several transactions
abbrev pub are_several : List Entry → Bool
are_several [] = false
are_several (entry ∷ rest) = option_map_or (λ tx. list_any (is_of_other tx) rest) (tx_of entry) (are_several rest)

-- ---- all rows

-- the rows of what happened, of which the first is this line
abbrev pub rows_of : ℕ → List Entry → List Row
rows_of first entries = fold (with_entry first (are_several entries)) [] entries
