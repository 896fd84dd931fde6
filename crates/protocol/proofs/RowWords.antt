-- Words for worked runs: the names and transactions in them, and what a run shows of itself.
-- Needed by 20 files here; crate history.
use Rattle.std.specs.Prelude.{ℕ, true, false, List, [], ◌∷◌, map, Option, Some}
use Rattle.xid.specs.Names.{XidParts}
use Rattle.xid.specs.Transactions.{TxParts}
use Rattle.wire.specs.declared.message.Kind.{Kind}
use Rattle.xid.specs.declared.codes.XaCode.TheVariants as codes
use Rattle.std.specs.List.{range_with_len}
use Rattle.protocol.specs.Vocabulary.{NodeId, L, R, View, Answer, Code, Action, Start, Put, End, Row, Request, Call, Recover, Timeout}
use Rattle.protocol.specs.Vocabulary.{Event, Ask, Deliver, Change}
use Rattle.protocol.specs.Effects.{Config}
use Rattle.protocol.specs.Nodes.{NoFault}
use Rattle.protocol.specs.Worlds.{Occurrence, World, Datagram, StepResult, opening, trace, world_after, world_step, table_at}

-- 1:74:61, 1:74:62, 1:75:61
abbrev pub x : XidParts
x = record { format = 1; gtrid = 0x74 ∷ []; bqual = 0x61 ∷ [] }

abbrev pub y : XidParts
y = record { format = 1; gtrid = 0x74 ∷ []; bqual = 0x62 ∷ [] }

abbrev pub z : XidParts
z = record { format = 1; gtrid = 0x75 ∷ []; bqual = 0x61 ∷ [] }

-- 1:74/0=61,1=62 and 1:74/0=61
abbrev pub two : TxParts
two = record { format = 1; gtrid = 0x74 ∷ []; branches = record { rm = 0; bqual = 0x61 ∷ [] } ∷ record { rm = 1; bqual = 0x62 ∷ [] } ∷ [] }

abbrev pub one : TxParts
one = record { format = 1; gtrid = 0x74 ∷ []; branches = record { rm = 0; bqual = 0x61 ∷ [] } ∷ [] }

-- 1:75/0=61
abbrev pub other_one : TxParts
other_one = record { format = 1; gtrid = 0x75 ∷ []; branches = record { rm = 0; bqual = 0x61 ∷ [] } ∷ [] }

-- a cluster of so many, with no rows; and with 6b=30 at r0
abbrev pub cluster : ℕ → ℕ → ℕ → Config
cluster a l r = record { acceptors = a; leaders = l; managers = r; bundled = false; tables = [] }

abbrev pub row : ℕ → ℕ → Row
row key value = record { key = key ∷ []; value = value ∷ [] }

abbrev pub cluster_with_row : ℕ → ℕ → ℕ → Config
cluster_with_row a l r = record { acceptors = a; leaders = l; managers = r; bundled = false; tables = (row 0x6b 0x30 ∷ []) ∷ [] }

-- the same with bundles
abbrev pub with_bundles : Config → Config
with_bundles config = record config { bundled = true }

-- an event that goes well
abbrev pub well : Event → Occurrence
well event = record { event = event; fault = NoFault }

abbrev pub run : Config → List Event → World
run config events = world_after config (opening config) (map well events)

-- what an event does that comes after others
abbrev pub next : Config → List Event → Event → StepResult
next config events event = world_step config (run config events) event NoFault

-- all answers, and the final tables
abbrev pub answers : Config → List Event → List Answer
answers config events = map (λ step. step.answer) (trace config (opening config) (map well events))

abbrev pub tables : Config → List Event → List (List Row)
tables config events = map (table_at config (run config events)) (range_with_len 0 config.managers)

-- datagrams delivered, from one number on
abbrev pub deliveries : ℕ → ℕ → List Event
deliveries first n = map Deliver (range_with_len first n)

-- the answers of calls
abbrev pub ok : Answer
ok = Code codes.Ok

-- a call on branch b of resource manager rm
abbrev pub call : ℕ → XidParts → Action → Event
call rm b action = Ask (R rm) (Call b action)

abbrev pub put : ℕ → ℕ → Action
put key value = Put (key ∷ []) (value ∷ [])

abbrev pub recover : ℕ → Event
recover rm = Ask (R rm) Recover

-- a commit, a status and a timeout asked of leader l
abbrev pub commit : ℕ → TxParts → Event
commit l tx = Ask (L l) (Request.Commit tx)

abbrev pub status : ℕ → TxParts → Event
status l tx = Ask (L l) (Request.Status tx)

abbrev pub timeout : NodeId → TxParts → Event
timeout who tx = Ask who (Timeout tx)

-- a view asked of resource manager rm
abbrev pub view : ℕ → TxParts → Event
view rm tx = Ask (R rm) (Request.View tx)

-- the calls of a transaction at two resource managers, up to its commit; and at one
abbrev pub two_ended : List Event
two_ended = call 0 x Start ∷ call 0 x (put 0x6b 0x31) ∷ call 0 x End ∷ call 1 y Start ∷ call 1 y (put 0x6d 0x32) ∷ call 1 y End
    ∷ commit 0 two ∷ []

abbrev pub one_ended : List Event
one_ended = call 0 x Start ∷ call 0 x (put 0x6b 0x31) ∷ call 0 x End ∷ commit 0 one ∷ []

-- a datagram as a trace prints it
abbrev pub sent_by : NodeId → NodeId → Kind → Datagram
sent_by sender receiver message = record { sender = sender; receiver = receiver; message = message; marked = false }

abbrev pub changes : ℕ → TxParts → View → Option Change
changes rm tx view = Some (record { rm = rm; tx = tx; view = view })
