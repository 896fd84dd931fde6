-- What a node makes of what it is handed at its port: the step of the machine with floors, and one send for each datagram of it.
use Rattle.std.specs.Prelude.{◌≡◌, ℕ, List, [], ◌∷◌, map, if◌then◌else◌, Option, Some, None, Result, Ok, Err}
use Rattle.std.specs.List.{flat_map, range_with_len}
use Rattle.xid.specs.declared.refusals.Refusal.{Refusal}
use Rattle.xid.specs.declared.refusals.Refusal.TheVariants.{NoSuch}
use Rattle.xid.specs.Places.{Place}
use Rattle.wire.specs.Grammar.{spelling}
use Rattle.wire.specs.Notices.{notice_spelling}
use Rattle.protocol.specs.declared.nodes.NodeId.TheVariants.{A, L, R}
use Rattle.protocol.specs.declared.nodes.NodeId.{NodeId}
use Rattle.protocol.specs.Effects.{Config}
use Rattle.protocol.specs.Nodes.{NodeState}
use Rattle.protocol.specs.Worlds.{Datagram, datagrams_of}
use Rattle.node_core.specs.declared.output.Output.{Output}
use Rattle.node_core.specs.Opening.{restart_answer}
use Rattle.floors.specs.Worlds.{Notice, is_done, notices_of}
use Rattle.floored.specs.Nodes.{FlooredStands}
use Rattle.port.specs.declared.calling.Served.{Served}
use Rattle.port.specs.Members.{Item, MemberParts, RaisesMember, TakesAs, item_at}

-- so many leaders
abbrev pub leaders_below : ℕ → List NodeId
leaders_below count = map L (range_with_len 0 count)

-- so many acceptors
abbrev pub acceptors_below : ℕ → List NodeId
acceptors_below count = map A (range_with_len 0 count)

-- a way in which sends change a port
abbrev pub Sending : Type 0 → Type 1
Sending P = P → P → NodeId → List ℕ → Result (Unit {0}) Refusal → Type 0

-- a port goes by one send for each datagram, in order, whether they fail or not
abbrev pub SendsAll : {P : Type 0} → Sending P → P → P → List Datagram → Type 0
SendsAll Sent old new [] = new ≡ old
SendsAll {P} Sent old new (d ∷ more) =
    (next : P) × (result : Result (Unit {0}) Refusal) × Sent old next d.receiver (spelling d.message) result × SendsAll Sent next new more

-- a port goes by one send of these bytes to each of these nodes, in order, whether they fail or not
abbrev pub SendsTo : {P : Type 0} → Sending P → P → P → List ℕ → List NodeId → Type 0
SendsTo Sent old new bytes [] = new ≡ old
SendsTo {P} Sent old new bytes (who ∷ more) =
    (next : P) × (result : Result (Unit {0}) Refusal) × Sent old next who bytes result × SendsTo Sent next new bytes more

-- a port goes by one send for each notice, in order, whether they fail or not
abbrev pub TellsAll : {P : Type 0} → Sending P → P → P → List Notice → Type 0
TellsAll Sent old new [] = new ≡ old
TellsAll {P} Sent old new (n ∷ more) =
    (next : P) × (result : Result (Unit {0}) Refusal)
    × Sent old next n.receiver (notice_spelling (record { manager = n.manager; floor = n.place })) result × TellsAll Sent next new more

-- a node was handed something at its port: it made of that what the machine with floors makes, and the port went by one send for each
-- datagram of it
pub record CallsAs {P : Type 0} (Sent : Sending P) (config : Config) (m : NodeState) (item : Item) (old new : MemberParts)
    (before after : P) (served : Served) : Type 0 where
  pub out : Output
  pub takes : TakesAs config m item old new out
  pub reply_is : served.reply ≡ out.reply
  pub now_is : served.now ≡ out.now
  pub sends : SendsAll Sent before after (flat_map (datagrams_of config old.floored.node.who) out.sends)

-- whatever node of the machine it stood for
abbrev pub Calls : {P : Type 0} → Sending P → Item → (old new : MemberParts) → (before after : P) → Served → Type 0
Calls Sent item old new before after served =
    (config : Config) (m : NodeState) → FlooredStands config old.floored m → CallsAs Sent config m item old new before after served

-- the datagrams that came of an input
abbrev pub datagrams_from : Config → NodeId → Output → List Datagram
datagrams_from config who out = flat_map (datagrams_of config who) out.sends

-- a way in which receives change a port
abbrev pub Receiving : Type 0 → Type 1
Receiving P = P → P → Result (Option (List ℕ)) Refusal → Type 0

-- a datagram was received, and the node was handed its bytes
pub record ServesOne {P : Type 0} (Received : Receiving P) (Sent : Sending P) (old new : MemberParts) (before after : P) (served : Served)
    : Type 0 where
  pub bytes : List ℕ
  pub between : P
  pub received : Received before between (Ok (Some bytes))
  pub calls : Calls Sent (item_at old.floored.node.who bytes) old new between after served

-- a node took one datagram at its port, or none, and then it is as it was
abbrev pub Serves : {P : Type 0} → Receiving P → Sending P → (old new : MemberParts) → (before after : P) → Result (Option Served) Refusal
    → Type 0
Serves Received Sent old new before after (Ok None) = Received before after (Ok None) × (new ≡ old)
Serves Received Sent old new before after (Ok (Some served)) = ServesOne Received Sent old new before after served
Serves Received Sent old new before after (Err refusal) = Received before after (Err refusal) × (new ≡ old)

-- a resource manager was asked at its port to raise its floor: it did what the machine's does, and where that was done the port went by one
-- send for each notice of its floor
pub record RaisesAs {P : Type 0} (Sent : Sending P) (config : Config) (place : Place) (rm : ℕ) (old new : MemberParts) (before after : P)
    (result : Result (Unit {0}) Refusal) : Type 0 where
  pub raises : RaisesMember place old new result
  pub tells : TellsAll Sent before after (if is_done (restart_answer result) then notices_of config rm new.floored.floor else [])

-- whatever node of the machine it stood for; any other node is asked for nothing
abbrev pub Raises : {P : Type 0} → Sending P → Place → (who : NodeId) → (old new : MemberParts) → (before after : P)
    → Result (Unit {0}) Refusal → Type 0
Raises Sent place (R rm) old new before after result =
    (config : Config) (m : NodeState) → FlooredStands config old.floored m → RaisesAs Sent config place rm old new before after result
Raises Sent place who old new before after result = (new ≡ old) × (after ≡ before) × (result ≡ Err NoSuch)
