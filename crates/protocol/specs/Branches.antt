-- The table of client calls: which answer each gets, over any way to look at branches. The names of states are those of X/Open XA
-- (C193), chapter "State Tables", and the codes those of its chapter "The xa.h Header"; which call is answered by which code in which
-- state, and keys, holds and tables, are this project's own.
use Rattle.std.specs.Prelude.{ℕ, Bool, true, false, ◌&&◌, ◌||◌, nat_lt, nat_le, if◌then◌else◌, List, [], ◌∷◌, length, Option, Some, None}
use Rattle.std.specs.Prelude.{is_none}
use Rattle.xid.specs.Limits.{most_key, most_value, most_touched}
use Rattle.protocol.specs.Basics.{bytes_eq, XaCode, Refusal, Act}
use Rattle.protocol.specs.Vocabulary.{BranchState, Action, Answer, Row, Start, End, EndFail, Rollback, Put, Del, Get, Code, Value, NoValue}
use Rattle.protocol.specs.Vocabulary.{Refused}

-- a branch as it shows: its state, if it exists; which keys it has touched, and how many; and its last act on a key, which is to
-- read it where it has written nothing there
pub record BranchView : Type 0 where
  pub state : Option BranchState
  pub touched : List ℕ → Bool
  pub count : ℕ
  pub act : List ℕ → Act

-- a branch that doesn't exist
abbrev pub no_branch : BranchView
no_branch = record { state = None; touched = λ _. false; count = 0; act = λ _. Act.Read }

-- whether a key isn't empty, and not too long
abbrev pub key_fits : List ℕ → Bool
key_fits key = nat_le 1 (length key) && nat_le (length key) most_key

-- whether a value isn't too long
abbrev pub value_fits : List ℕ → Bool
value_fits value = nat_le (length value) most_value

-- what a table has at a key
abbrev pub row_at : List Row → List ℕ → Option (List ℕ)
row_at [] key = None
row_at (row ∷ rows) key = if bytes_eq row.key key then Some row.value else row_at rows key

-- what stands at a key after an act
abbrev pub value_after : Act → (before : Option (List ℕ)) → Option (List ℕ)
value_after Act.Read before = before
value_after (Act.Put value) before = Some value
value_after Act.Del before = None

-- what a branch reads at a key: its own last write, or else the row of the table
abbrev pub read_of : List Row → BranchView → List ℕ → Option (List ℕ)
read_of rows view key = value_after (view.act key) (row_at rows key)

-- the answer of a get that read this
abbrev pub get_answer : Option (List ℕ) → Answer
get_answer (Some bytes) = Value bytes
get_answer None = NoValue

-- the key that a call would touch
abbrev pub key_of : Action → Option (List ℕ)
key_of (Put key value) = Some key
key_of (Del key) = Some key
key_of (Get key) = Some key
key_of action = None

-- whether an act writes
abbrev pub is_write : Act → Bool
is_write Act.Read = false
is_write act = true

-- whether a branch that shows so hinders another's use of a key: to write it where it has touched it, to read it where it has put or
-- deleted it
abbrev pub hinders_use : (writes : Bool) → (key : List ℕ) → BranchView → Bool
hinders_use true key other = other.touched key
hinders_use false key other = is_write (other.act key)

-- whether it hinders another's call
abbrev pub hinders : Action → BranchView → Bool
hinders (Put key value) other = hinders_use true key other
hinders (Del key) other = hinders_use true key other
hinders (Get key) other = hinders_use false key other
hinders action other = false

-- one of three, by the state: of no branch, of an active one, and of one that was ended
abbrev pub by_state : Option BranchState → (absent active ended : Answer) → Answer
by_state None absent active ended = absent
by_state (Some BranchState.Active) absent active ended = active
by_state (Some other) absent active ended = ended

-- the answer of a call on a key: the branch, its state, the holds of others and the room are asked for in this order
abbrev pub touch_answer : BranchView → Bool → List ℕ → Answer → Answer
touch_answer view busy key done =
    by_state view.state (Code XaCode.Nota)
    (if busy then Refused Refusal.Busy else if view.touched key || nat_lt view.count most_touched then done else Refused Refusal.Full)
    (Code XaCode.Proto)

-- the answer of a rollback: of a branch that was ended, and isn't prepared
abbrev pub rollback_answer : Option BranchState → Answer
rollback_answer (Some BranchState.Prepared) = Code XaCode.Proto
rollback_answer state = by_state state (Code XaCode.Nota) (Code XaCode.Proto) (Code XaCode.Ok)

-- the answer of a call on a branch that shows so; busy says whether another branch hinders it
abbrev pub call_answer : List Row → BranchView → (busy : Bool) → Action → Answer
call_answer rows view busy Start = if is_none view.state then Code XaCode.Ok else Code XaCode.DupId
call_answer rows view busy (Put key value) =
    if key_fits key && value_fits value then touch_answer view busy key (Code XaCode.Ok) else Code XaCode.Inval
call_answer rows view busy (Del key) = if key_fits key then touch_answer view busy key (Code XaCode.Ok) else Code XaCode.Inval
call_answer rows view busy (Get key) =
    if key_fits key then touch_answer view busy key (get_answer (read_of rows view key)) else Code XaCode.Inval
call_answer rows view busy End = by_state view.state (Code XaCode.Nota) (Code XaCode.Ok) (Code XaCode.Proto)
call_answer rows view busy EndFail = by_state view.state (Code XaCode.Nota) (Code XaCode.RbRollback) (Code XaCode.Proto)
call_answer rows view busy Rollback = rollback_answer view.state

-- whether a call was done
abbrev pub is_done : Action → Answer → Bool
is_done (Get key) (Value bytes) = true
is_done (Get key) NoValue = true
is_done (Get key) answer = false
is_done EndFail (Code XaCode.RbRollback) = true
is_done EndFail answer = false
is_done action (Code XaCode.Ok) = true
is_done action answer = false
