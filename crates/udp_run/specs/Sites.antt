-- Nodes at their ports, and what an event makes of them.
use Rattle.std.specs.Prelude.{◌≡◌, ℕ, ◌<◌, Bool, ◌||◌, MatchBool, is_some, List, [], length, slice_index_or, slice_set}
use Rattle.std.specs.Prelude.{Option, Some, None, Result}
use Rattle.xid.specs.Places.{Place}
use Rattle.xid.specs.declared.refusals.Refusal.{Refusal}
use Rattle.xid.specs.declared.refusals.Refusal.TheVariants.{NoSuch, Forged}
use Rattle.wire.specs.Decoding.{spells_message}
use Rattle.wire.specs.Notices.{notice_at}
use Rattle.protocol.specs.declared.answers.Answer.{Answer}
use Rattle.protocol.specs.declared.answers.Answer.TheVariants.{Refused}
use Rattle.protocol.specs.declared.events.Event.{Event}
use Rattle.protocol.specs.declared.events.Event.TheVariants.{Ask, Noise, Restart, Compact, Raise}
use Rattle.protocol.specs.declared.events.Step.{Step}
use Rattle.protocol.specs.declared.nodes.NodeId.{NodeId}
use Rattle.protocol.specs.declared.nodes.NodeId.TheVariants.{R}
use Rattle.protocol.specs.declared.requests.Request.{Request}
use Rattle.protocol.specs.Nodes.{Asked}
use Rattle.protocol.specs.Worlds.{place}
use Rattle.node_core.specs.declared.config.Sizes.{Sizes}
use Rattle.node_core.specs.Configs.{config_by}
use Rattle.node_core.specs.Opening.{restart_answer}
use Rattle.node_core.specs.Places.{node_count}
use Rattle.port.specs.declared.calling.Served.{Served}
use Rattle.port.specs.Members.{Acts, CompactsMember, MemberParts, RestartsMember}
use Rattle.port.specs.Calls.{Sending, Calls, Raises}

-- the nodes of a cluster, acceptors first, then leaders, then resource managers; the port of each; and a port for noise
pub record SiteParts (P : Type 0) : Type 0 where
  pub sizes : Sizes
  pub nodes : List MemberParts
  pub ports : List P
  pub noise : P

-- a site of these parts
abbrev pub site_of : {P : Type 0} → Sizes → List MemberParts → List P → P → SiteParts P
site_of sizes nodes ports noise = record { sizes = sizes; nodes = nodes; ports = ports; noise = noise }

-- each place has a node and a port
pub record IsSite {P : Type 0} (sizes : Sizes) (nodes : List MemberParts) (ports : List P) : Type 0 where
  pub nodes_are : length nodes ≡ node_count sizes
  pub ports_are : length ports ≡ node_count sizes

-- where a node stands
abbrev pub place_in : Sizes → NodeId → Option ℕ
place_in sizes who = place (config_by sizes []) who

-- ---- one node

-- what can become of a node and its port
abbrev pub Making : Type 0 → Type 1
Making P = (old new : MemberParts) → (before after : P) → Type 0

-- at one place a node and its port became others; all else is as it was
pub record ChangesAt {P : Type 0} (Makes : Making P) (at : ℕ) (old new : SiteParts P) : Type 0 where
  pub was : MemberParts
  pub node : MemberParts
  pub before : P
  pub port : P
  pub within : at < length old.nodes
  pub was_is : was ≡ slice_index_or old.nodes at was
  pub before_is : before ≡ slice_index_or old.ports at before
  pub makes : Makes was node before port
  pub site_is : new ≡ site_of old.sizes (slice_set old.nodes at node) (slice_set old.ports at port) old.noise

-- an answer, and no view changed
abbrev pub answer_served : Answer → Served
answer_served reply = record { reply = reply; now = None }

-- an event reached the node of a place; where there is no such node it was refused, and all is as it was
abbrev pub ReachesAt : {P : Type 0} → (Served → Making P) → Option ℕ → (old new : SiteParts P) → Served → Type 0
ReachesAt Makes None old new served = (new ≡ old) × (served ≡ answer_served (Refused NoSuch))
ReachesAt Makes (Some at) old new served = ChangesAt (Makes served) at old new

-- a node was asked something at its port
abbrev pub AsksAt : {P : Type 0} → Sending P → Request → Served → Making P
AsksAt Sent request served old new before after = Calls Sent (Acts (Asked request)) old new before after served

-- a node was asked at its port to raise its floor to a place; the result is answered
abbrev pub RaisesAt : {P : Type 0} → Sending P → Place → Served → Making P
RaisesAt Sent floor served old new before after =
    (result : Result (Unit {0}) Refusal) × Raises Sent floor old.floored.node.who old new before after result
    × (served ≡ answer_served (restart_answer result))

-- ---- one node's record

-- what a call that reaches a record alone can make of a node
abbrev pub Handling : Type 1
Handling = (old new : MemberParts) → Result (Unit {0}) Refusal → Type 0

-- a node was restarted
abbrev pub IsRestarted : Handling
IsRestarted old new result = RestartsMember old new result

-- its record was made shorter
abbrev pub IsShortened : Handling
IsShortened old new result = CompactsMember old new result

-- such a call of the node of a place; its result is answered
pub record HandlesAt (Handles : Handling) (at : ℕ) (old new : List MemberParts) (served : Served) : Type 0 where
  pub was : MemberParts
  pub node : MemberParts
  pub result : Result (Unit {0}) Refusal
  pub within : at < length old
  pub was_is : was ≡ slice_index_or old at was
  pub handles : Handles was node result
  pub served_is : served ≡ answer_served (restart_answer result)
  pub nodes_are : new ≡ slice_set old at node

-- where there is no such node it is refused
abbrev pub HandlesIn : Handling → Option ℕ → (old new : List MemberParts) → Served → Type 0
HandlesIn Handles None old new served = (new ≡ old) × (served ≡ answer_served (Refused NoSuch))
HandlesIn Handles (Some at) old new served = HandlesAt Handles at old new served

-- ---- noise

-- bytes were sent by a port
pub record IsSentBy {P : Type 0} (Sent : Sending P) (who : NodeId) (bytes : List ℕ) (before after : P) (served : Served) : Type 0 where
  pub result : Result (Unit {0}) Refusal
  pub sent : Sent before after who bytes result
  pub served_is : served ≡ answer_served (restart_answer result)

-- whether bytes spell what nodes send: a message or a notice
abbrev pub is_forged : List ℕ → Bool
is_forged bytes = spells_message bytes || is_some (notice_at bytes)

-- such bytes are refused, and others are sent to the node of a place
abbrev pub SendsNoise : {P : Type 0} → Sending P → Option ℕ → NodeId → List ℕ → (before after : P) → Served → Type 0
SendsNoise Sent None who bytes before after served = (after ≡ before) × (served ≡ answer_served (Refused NoSuch))
SendsNoise Sent (Some at) who bytes before after served =
    MatchBool (is_forged bytes) ((after ≡ before) × (served ≡ answer_served (Refused Forged)))
    (IsSentBy Sent who bytes before after served)

-- ---- one event

-- what comes of an event over sockets. Datagrams and notices have no numbers there, and no record is torn or lost
abbrev pub Comes : {P : Type 0} → Sending P → Event → (old new : SiteParts P) → Served → Type 0
Comes Sent (Ask who request) old new served = ReachesAt (AsksAt Sent request) (place_in old.sizes who) old new served
Comes Sent (Restart who) old new served =
    (new ≡ record old { nodes = new.nodes }) × HandlesIn IsRestarted (place_in old.sizes who) old.nodes new.nodes served
Comes Sent (Compact who) old new served =
    (new ≡ record old { nodes = new.nodes }) × HandlesIn IsShortened (place_in old.sizes who) old.nodes new.nodes served
Comes Sent (Raise rm floor) old new served = ReachesAt (RaisesAt Sent floor) (place_in old.sizes (R rm)) old new served
Comes Sent (Noise who bytes) old new served =
    (new ≡ record old { noise = new.noise }) × SendsNoise Sent (place_in old.sizes who) who bytes old.noise new.noise served
Comes Sent event old new served = ⊥

-- the step of an event of which this came: datagrams that were sent, and notices that were told, aren't listed
abbrev pub step_by : Event → Served → Step
step_by event served = record { event = event; answer = served.reply; now = served.now; sent = []; told = [] }

-- an event happened
pub record Happens {P : Type 0} (Sent : Sending P) (event : Event) (old new : SiteParts P) (step : Step) : Type 0 where
  pub served : Served
  pub comes : Comes Sent event old new served
  pub step_is : step ≡ step_by event served
