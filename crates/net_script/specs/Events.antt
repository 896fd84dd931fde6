-- What may happen in a script, and the one list of words of each event: those of traces too.
use Rattle.std.specs.Prelude.{ℕ, ◌<◌, ◌≤◌, ◌^◌, List, [], ◌∷◌, length, codes, decimal}
use Rattle.xid.specs.Limits.{most_component, formats}
use Rattle.net_script.specs.Basics.{IsBytes, IsXid, IsTx, xid_text, tx_text, NodeId, A, L, R, Action, Start, Put, Del, Get, End}
use Rattle.net_script.specs.Basics.{EndFail, Rollback, Request, Call, Recover, Timeout, Event, Ask, Deliver, Lose, Cut, Noise}
use Rattle.net_script.specs.Basics.{Tear, Restart, Compact, Raise, Hear, Replace, Place}
use Rattle.net_script.specs.Lines.{bytes_text, node_text, floor_text}

-- ---- what is in range

-- a node that a text may name: its number has 8 bits
abbrev pub IsNode : NodeId → Type 0
IsNode (A number) = number < 256
IsNode (L number) = number < 256
IsNode (R number) = number < 256

-- a floor that a text may name: a format, and a gtrid or no bytes
pub record IsFloor (place : Place) : Type 0 where
  pub format : place.format < formats
  pub few : length place.gtrid ≤ most_component
  pub bytes : IsBytes place.gtrid

-- what a call may ask: keys and values of calls have any length
abbrev pub IsAction : Action → Type 0
IsAction Start = Unit {0}
IsAction (Put key value) = IsBytes key × IsBytes value
IsAction (Del key) = IsBytes key
IsAction (Get key) = IsBytes key
IsAction End = Unit {0}
IsAction EndFail = Unit {0}
IsAction Rollback = Unit {0}

-- what may be asked of a node: of a resource manager calls on branches, which branches are prepared, and views; of a leader to
-- commit a transaction, and what it knows of it; of both a timeout
abbrev pub IsAsked : NodeId → Request → Type 0
IsAsked (R rm) (Call xid action) = IsXid xid × IsAction action
IsAsked (R rm) Recover = Unit {0}
IsAsked (R rm) (Request.View tx) = IsTx tx
IsAsked (R rm) (Timeout tx) = IsTx tx
IsAsked (L leader) (Request.Commit tx) = IsTx tx
IsAsked (L leader) (Request.Status tx) = IsTx tx
IsAsked (L leader) (Timeout tx) = IsTx tx
IsAsked node request = ⊥

-- what may happen: numbers have 32 bits
abbrev pub IsEvent : Event → Type 0
IsEvent (Ask node request) = IsNode node × IsAsked node request
IsEvent (Deliver number) = number < 2 ^ 32
IsEvent (Lose number) = number < 2 ^ 32
IsEvent (Cut number bytes) = (number < 2 ^ 32) × (bytes < 2 ^ 32)
IsEvent (Noise node bytes) = IsNode node × IsBytes bytes
IsEvent (Tear node bytes) = IsNode node × (bytes < 2 ^ 32)
IsEvent (Restart node) = IsNode node
IsEvent (Compact node) = IsNode node
IsEvent (Raise rm floor) = (rm < 256) × IsFloor floor
IsEvent (Hear number) = number < 2 ^ 32
IsEvent (Replace node floor) = IsNode node × IsFloor floor

-- ---- the first words

-- of a call; that of an end with `fail` is the one of an end
abbrev pub action_word : Action → List ℕ
action_word Start = codes "start"
action_word (Put key value) = codes "put"
action_word (Del key) = codes "del"
action_word (Get key) = codes "get"
action_word End = codes "end"
action_word EndFail = codes "end"
action_word Rollback = codes "rollback"

-- of a request
abbrev pub request_word : Request → List ℕ
request_word (Call xid action) = action_word action
request_word Recover = codes "recover"
request_word (Request.View tx) = codes "view"
request_word (Request.Commit tx) = codes "commit"
request_word (Request.Status tx) = codes "status"
request_word (Timeout tx) = codes "timeout"

-- of an event
abbrev pub event_word : Event → List ℕ
event_word (Ask node request) = request_word request
event_word (Deliver number) = codes "deliver"
event_word (Lose number) = codes "lose"
event_word (Cut number bytes) = codes "cut"
event_word (Noise node bytes) = codes "noise"
event_word (Tear node bytes) = codes "tear"
event_word (Restart node) = codes "restart"
event_word (Compact node) = codes "compact"
event_word (Raise rm floor) = codes "floor"
event_word (Hear number) = codes "hear"
event_word (Replace node floor) = codes "replace"

-- ---- the words after the first

-- the words of a call after its XID
abbrev pub action_words : Action → List (List ℕ)
action_words Start = []
action_words (Put key value) = bytes_text key ∷ bytes_text value ∷ []
action_words (Del key) = bytes_text key ∷ []
action_words (Get key) = bytes_text key ∷ []
action_words End = []
action_words EndFail = codes "fail" ∷ []
action_words Rollback = []

-- the words of a request after its node
abbrev pub request_args : Request → List (List ℕ)
request_args (Call xid action) = xid_text xid ∷ action_words action
request_args Recover = []
request_args (Request.View tx) = tx_text tx ∷ []
request_args (Request.Commit tx) = tx_text tx ∷ []
request_args (Request.Status tx) = tx_text tx ∷ []
request_args (Timeout tx) = tx_text tx ∷ []

-- the words of an event after its first
abbrev pub event_args : Event → List (List ℕ)
event_args (Ask node request) = node_text node ∷ request_args request
event_args (Deliver number) = decimal number ∷ []
event_args (Lose number) = decimal number ∷ []
event_args (Cut number bytes) = decimal number ∷ decimal bytes ∷ []
event_args (Noise node bytes) = node_text node ∷ bytes_text bytes ∷ []
event_args (Tear node bytes) = node_text node ∷ decimal bytes ∷ []
event_args (Restart node) = node_text node ∷ []
event_args (Compact node) = node_text node ∷ []
event_args (Raise rm floor) = node_text (R rm) ∷ floor_text floor ∷ []
event_args (Hear number) = decimal number ∷ []
event_args (Replace node floor) = node_text node ∷ floor_text floor ∷ []

-- the words of an event
abbrev pub event_words : Event → List (List ℕ)
event_words event = event_word event ∷ event_args event

-- ---- for the readers of events

-- a node that has timeouts
abbrev pub IsParty : NodeId → Type 0
IsParty (A number) = ⊥
IsParty node = IsNode node

-- how an end ends
abbrev pub IsEnding : Action → Type 0
IsEnding End = Unit {0}
IsEnding EndFail = Unit {0}
IsEnding action = ⊥
