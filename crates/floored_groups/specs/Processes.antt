-- Processes of a cluster: for which node of a world each stands, and what comes in the world of what one is handed.
use Rattle.std.specs.Prelude.{◌≡◌, ◌≢◌, ◌⊎◌, ℕ, ◌<◌, Bool, true, false, MatchBool, List, [], ◌∷◌, ◌++◌, length, map, replicate, slice_get}
use Rattle.std.specs.Prelude.{Option, Some, None, is_some, Result, Ok, Err}
use Rattle.std.specs.List.{flat_map}
use Rattle.xid.specs.declared.refusals.Refusal.{Refusal}
use Rattle.xid.specs.Names.{IsBytes}
use Rattle.xid.specs.Places.{Place}
use Rattle.xid.specs.Transactions.{TxParts}
use Rattle.ballot.specs.Greatest.{IsIn}
use Rattle.wire.specs.declared.notice.Notice.{Notice as Heard}
use Rattle.stable_record.specs.declared.record.RecordError.{RecordError}
use Rattle.stable_record.specs.Behind.{IsFloor}
use Rattle.stable_record.specs.Floors.{front_of}
use Rattle.stable_record.specs.Held.{Held, armed_with, refusal_of}
use Rattle.protocol.specs.declared.answers.Answer.{Answer}
use Rattle.protocol.specs.declared.answers.Answer.TheVariants.{Refused}
use Rattle.protocol.specs.declared.decisions.Outgoing.{Outgoing}
use Rattle.protocol.specs.declared.nodes.NodeId.{NodeId}
use Rattle.protocol.specs.declared.rows.Row.{Row}
use Rattle.protocol.specs.declared.states.View.{View}
use Rattle.protocol.specs.Effects.{Config}
use Rattle.protocol.specs.Nodes.{NodeState, Input, Received, ReceivedNoise}
use Rattle.protocol.specs.Worlds.{Datagram, node_at, datagrams_of}
use Rattle.node_core.specs.declared.output.Output.{Output}
use Rattle.node_core.specs.Nodes.{HasRows}
use Rattle.node_core.specs.Storing.{output_of}
use Rattle.floors.specs.Worlds.{FlooredWorld, Notice, Hear, is_manager, notices_of}
use Rattle.floored.specs.Nodes.{FlooredStands, FlooredTables, FlooredViews, IsFlooredOpened}
use Rattle.floored.specs.Told.{told_at}
use Rattle.port.specs.Members.{MemberParts, Item, Acts, Hears, is_aside, grouped}
use Rattle.floored_groups.specs.Runs.{IsFlooredReached, FlooredHappening, Took, Underwent, all_taken}

-- ---- for which node a process stands

-- a member stands for its node in a world: it has the node's name and its floor, and was told as much of each resource manager's floor
pub record StandsIn (config : Config) (world : FlooredWorld) (who : NodeId) (member : MemberParts) : Type 0 where
  pub state : NodeState
  pub there : node_at config world.machine who ≡ Some state
  pub is : FlooredStands config member.floored state
  pub who_is : member.floored.node.who ≡ who
  pub floor_is : member.floored.floor ≡ world.floor who
  pub told_count : length member.told ≡ config.managers
  pub told_are : (rm : ℕ) → rm < config.managers → told_at member.told rm ≡ world.told who rm

-- every other node is as it was, with its floor and what it was told, and no more nodes were replaced
pub record OthersStay (config : Config) (world after : FlooredWorld) (who : NodeId) : Type 0 where
  pub nodes_are : (other : NodeId) → other ≢ who → node_at config after.machine other ≡ node_at config world.machine other
  pub floors_are : (other : NodeId) → other ≢ who → after.floor other ≡ world.floor other
  pub told_are : (other : NodeId) → other ≢ who → after.told other ≡ world.told other
  pub replaced_are : after.is_replaced ≡ world.is_replaced

-- the cluster goes on from a world to another: there the member of a process stands for its node, and every other node is as it was. Behind
-- the datagrams and the notices of before stand those that it sent and told, and behind all that happened before what happened now
pub record GoesOn (config : Config) (world : FlooredWorld) (reach : IsFlooredReached config world) (who : NodeId) (new : MemberParts)
    (sends : List Outgoing) (told : List Notice) (happened : List FlooredHappening) : Type 0 where
  pub after : FlooredWorld
  pub reached : IsFlooredReached config after
  pub stands : StandsIn config after who new
  pub others : OthersStay config world after who
  pub net_is : after.machine.net ≡ world.machine.net ++ flat_map (datagrams_of config who) sends
  pub notices_are : after.notices ≡ world.notices ++ told
  pub happened_is : all_taken config after reached ≡ all_taken config world reach ++ happened

-- ---- what it is handed

-- a notice to a node as worlds have it
abbrev pub notice_to : NodeId → Heard → Notice
notice_to who notice = record { manager = notice.manager; receiver = who; place = notice.floor }

-- what a process can be handed where so much was sent and told: any request, bytes that spell no message, the message of a datagram to it
-- that was sent, and, at an acceptor or a leader, a notice that was told it
abbrev pub CanBeGiven : List Datagram → List Notice → NodeId → Item → Type 0
CanBeGiven net notices who (Acts (Received message)) =
    (d : Datagram) × IsIn net d × (d.receiver ≡ who) × (d.message ≡ message)
CanBeGiven net notices who (Acts input) = Unit {0}
CanBeGiven net notices who (Hears notice) = IsIn notices (notice_to who notice) × (is_manager who ≡ false)

-- ---- how it is answered

-- what happened is that something which a process was handed alone was answered so
abbrev pub IsAnswered : List Notice → NodeId → Item → Answer → FlooredHappening → Type 0
IsAnswered notices who (Acts input) answer happened = happened ≡ Took who input answer
IsAnswered notices who (Hears notice) answer happened =
    (n : ℕ) × (slice_get notices n ≡ Some (notice_to who notice)) × (happened ≡ Underwent (Hear n) answer)

-- what happened is that those which are marked were handled one after another, and that each was answered as its output says
abbrev pub AreAnswered : List Notice → NodeId → (marks : List Bool) → List Item → List Output → List FlooredHappening → Type 0
AreAnswered notices who [] [] [] [] = Unit {0}
AreAnswered notices who (false ∷ marks) (item ∷ items) (out ∷ outs) happened = AreAnswered notices who marks items outs happened
AreAnswered notices who (true ∷ marks) (item ∷ items) (out ∷ outs) (first ∷ rest) =
    IsAnswered notices who item out.reply first × AreAnswered notices who marks items outs rest
AreAnswered notices who marks items outs happened = ⊥

-- what happened is that something was handled in a group, and answered as its output says; where it is set aside, noise was, whose answer
-- nobody is told
abbrev pub IsGrouped : (is_aside : Bool) → NodeId → Input → Answer → FlooredHappening → Type 0
IsGrouped true who input answer happened = (untold : Answer) × (happened ≡ Took who ReceivedNoise untold)
IsGrouped false who input answer happened = happened ≡ Took who input answer

-- the same of all, one after another
abbrev pub AreGrouped : NodeId → (floor : Option Place) → List Item → List Output → List FlooredHappening → Type 0
AreGrouped who floor [] [] [] = Unit {0}
AreGrouped who floor (item ∷ items) (out ∷ outs) (first ∷ rest) =
    IsGrouped (is_aside floor item) who (grouped floor item) out.reply first × AreGrouped who floor items outs rest
AreGrouped who floor items outs happened = ⊥

-- what happened at a node that is up: a group, and then, one after another, what was set aside from it
pub record AreAnsweredApart (notices : List Notice) (who : NodeId) (floor : Option Place) (items : List Item) (outs : List Output)
    (happened : List FlooredHappening) : Type 0 where
  pub group : List FlooredHappening
  pub asides : List FlooredHappening
  pub happened_is : happened ≡ group ++ asides
  pub grouped_are : AreGrouped who floor items outs group
  pub asides_are : AreAnswered notices who (map (is_aside floor) items) items outs asides

-- what happened at a process; where it is down, each was answered alone
abbrev pub AreAllAnswered : List Notice → NodeId → (old : MemberParts) → List Item → List Output → List FlooredHappening → Type 0
AreAllAnswered notices who old items outs happened =
    MatchBool (is_some old.floored.node.role) (AreAnsweredApart notices who old.floored.floor items outs happened)
    (AreAnswered notices who (map (λ item. true) items) items outs happened)

-- what a process puts out to be sent, in order
abbrev pub sent_of : List Output → List Outgoing
sent_of outs = flat_map (λ (out : Output). out.sends) outs

-- it took all that it was handed: each was answered as the machine with floors answers it, and what it puts out is sent
pub record IsTaken (config : Config) (world : FlooredWorld) (reach : IsFlooredReached config world) (who : NodeId) (items : List Item)
    (old new : MemberParts) (outs : List Output) : Type 0 where
  pub happened : List FlooredHappening
  pub answered : AreAllAnswered world.notices who old items outs happened
  pub goes_on : GoesOn config world reach who new (sent_of outs) [] happened

-- it took one thing that it was handed alone, and was answered as the machine with floors answers it
pub record IsTakenAlone (config : Config) (world : FlooredWorld) (reach : IsFlooredReached config world) (who : NodeId) (item : Item)
    (new : MemberParts) (out : Output) : Type 0 where
  pub happened : FlooredHappening
  pub answered : IsAnswered world.notices who item out.reply happened
  pub goes_on : GoesOn config world reach who new out.sends [] (happened ∷ [])

-- its append was stopped, or memory was refused for it: it is down, each is refused, and nothing is sent
pub record IsStopped (config : Config) (world : FlooredWorld) (reach : IsFlooredReached config world) (who : NodeId) (items : List Item)
    (new : MemberParts) (outs : List Output) (error : RecordError) : Type 0 where
  pub down : new.floored.node.role ≡ None
  pub outs_are : outs ≡ map (λ (item : Item). output_of (Refused (refusal_of error)) None) items
  pub happened : List FlooredHappening
  pub goes_on : GoesOn config world reach who new [] [] happened

-- so it was, or nothing happened
abbrev pub IsUnstored : (config : Config) (world : FlooredWorld) → IsFlooredReached config world → NodeId → List Item
    → (old new : MemberParts) → (before after : List Output) → RecordError → Type 0
IsUnstored config world reach who items old new before after error =
    IsStopped config world reach who items new after error ⊎ ((new ≡ old) × (after ≡ before))

-- what a resource manager tells once its floor was to rise: where that is answered ok, its floor, to each acceptor and leader
abbrev pub told_by : Config → (rm : ℕ) → (new : MemberParts) → Result (Unit {0}) Refusal → List Notice
told_by config rm new (Ok done) = notices_of config rm new.floored.floor
told_by config rm new (Err refusal) = []

-- a process ended, and one was opened anew over its record, as it is given back when a member is let go: that begins with the floor that it
-- had, and has behind it the bytes of its node; the new one was told nothing. The old one's table began with its rows in the cluster
pub record Reopens (config : Config) (who : NodeId) (old new : MemberParts) : Type 0 where
  pub rows_are : HasRows config who old.floored.node.rows
  pub held : Held
  pub valid : IsFloor old.floored.floor
  pub are_bytes : IsBytes held.bytes
  pub bytes_are : held.bytes ≡ front_of old.floored.floor ++ old.floored.node.held.bytes
  pub armed_is : held.armed ≡ old.floored.node.held.armed
  pub opened : IsFlooredOpened config who held new.floored
  pub told_is : new.told ≡ replicate config.managers None

-- a process that was asked where it stands in a transaction answered so, as the contract of its view says
pub record AnswersView (tx : TxParts) (old new : MemberParts) (result : Result View Refusal) : Type 0 where
  pub machine : (config : Config) (m : NodeState) → FlooredStands config old.floored m
      → FlooredViews config m old.floored new.floored tx result
  pub told_is : new.told ≡ old.told

-- one that was asked for its table answered so, as that contract says
pub record AnswersTable (old new : MemberParts) (result : Result (List Row) Refusal) : Type 0 where
  pub machine : (config : Config) (m : NodeState) → FlooredStands config old.floored m
      → FlooredTables config m old.floored new.floored result
  pub told_is : new.told ≡ old.told

-- a tear of so many bytes was armed on its record, as that contract says
pub record ArmsMember (n : ℕ) (old new : MemberParts) : Type 0 where
  pub machine : (config : Config) (m : NodeState) → FlooredStands config old.floored m
      → FlooredStands config new.floored (record m { tear = Some n })
  pub node_is : new.floored.node ≡ record old.floored.node { held = armed_with (Some n) old.floored.node.held }
  pub floor_is : new.floored.floor ≡ old.floored.floor
  pub told_is : new.told ≡ old.told
