-- All processes of a cluster together, whatever befalls them, and what a world of the machine with floors says of them.
use Rattle.std.specs.Prelude.{◌≡◌, ℕ, true, List, [], ◌∷◌, ◌++◌, replicate, slice_get, None, Some, Result, Ok, Err}
use Rattle.std.specs.List.{AllByRecursion, flat_map}
use Rattle.xid.specs.Places.{Place}
use Rattle.xid.specs.Transactions.{TxParts}
use Rattle.xid.specs.declared.refusals.Refusal.{Refusal}
use Rattle.ballot.specs.Greatest.{IsIn}
use Rattle.stable_record.specs.declared.record.RecordError.{RecordError}
use Rattle.stable_record.specs.Held.{Held}
use Rattle.protocol.specs.declared.answers.Answer.{Answer}
use Rattle.protocol.specs.declared.answers.Answer.TheVariants.{Stands}
use Rattle.protocol.specs.declared.nodes.NodeId.{NodeId}
use Rattle.protocol.specs.declared.nodes.NodeId.TheVariants.{L, R}
use Rattle.protocol.specs.declared.requests.Request.{Request}
use Rattle.protocol.specs.declared.states.Standing.{Standing}
use Rattle.protocol.specs.declared.rows.Row.{Row}
use Rattle.protocol.specs.declared.states.View.{View}
use Rattle.protocol.specs.Effects.{Config}
use Rattle.protocol.specs.Nodes.{Asked}
use Rattle.protocol.specs.Worlds.{Datagram, datagrams_of}
use Rattle.answers.specs.Answers.{IsQuestion}
use Rattle.node_core.specs.declared.output.Output.{Output}
use Rattle.node_core.specs.Configs.{is_among}
use Rattle.floors.specs.Worlds.{FlooredWorld, Hear, Notice, with_entry}
use Rattle.floored.specs.Nodes.{IsFlooredOpened}
use Rattle.port.specs.Members.{Acts, CompactsMember, Hears, Item, MemberParts, RaisesMember, RestartsMember, Takes, TakesAll}
use Rattle.floored_groups.specs.Runs.{FlooredHappening, IsFlooredReached, Took, Underwent, all_taken}
use Rattle.floored_groups.specs.Processes.{AnswersTable, AnswersView, ArmsMember, CanBeGiven, Reopens, StandsIn}
use Rattle.floored_groups.specs.Processes.{notice_to, sent_of, told_by}

-- the processes of a cluster by the nodes that they are, all datagrams that they sent, and all notices that they told
pub record AllProcesses : Type 0 where
  pub members : NodeId → MemberParts
  pub net : List Datagram
  pub notices : List Notice

-- the same once one of them has become another, and has sent and told so much more
abbrev pub after_step : AllProcesses → NodeId → MemberParts → List Datagram → List Notice → AllProcesses
after_step all who new sends told = record {
  members = with_entry all.members who new;
  net = all.net ++ sends;
  notices = all.notices ++ told;
}

-- a process was opened over an empty record, on which no tear is armed, and was told nothing
pub record IsBegun (config : Config) (who : NodeId) (member : MemberParts) : Type 0 where
  pub held : Held
  pub empty : held.bytes ≡ []
  pub unarmed : held.armed ≡ None
  pub opened : IsFlooredOpened config who held member.floored
  pub told_is : member.told ≡ replicate config.managers None

-- what can become of the processes of a cluster, each step at one of them: they are begun; one takes what it is handed, many things at once
-- or one, all of which was sent to it or told it by processes of the cluster; its append fails there, or memory is wanted; a resource
-- manager is asked to raise its floor; one is asked for its view of a transaction or its table; one is restarted; the record of one is made
-- shorter; a tear is armed on it; and one ends and is opened anew over its record. One that is killed while it takes something is one whose
-- append failed there, at whatever byte, or that took it and whose sends were lost, and that was opened anew
pub data IsRun (config : Config) : AllProcesses → Type 0 where
  Begun : (members : NodeId → MemberParts) → ((who : NodeId) → is_among config who ≡ true → IsBegun config who (members who))
      → IsRun config (record { members = members; net = []; notices = [] })
  TookAll : (all : AllProcesses) (who : NodeId) (items : List Item) (new : MemberParts) (before after : List Output) → IsRun config all
      → is_among config who ≡ true → AllByRecursion (CanBeGiven all.net all.notices who) items
      → TakesAll items (all.members who) new before after (Ok tt)
      → IsRun config (after_step all who new (flat_map (datagrams_of config who) (sent_of after)) [])
  Failed : (all : AllProcesses) (who : NodeId) (items : List Item) (new : MemberParts) (before after : List Output) (error : RecordError)
      → IsRun config all → is_among config who ≡ true → AllByRecursion (CanBeGiven all.net all.notices who) items
      → TakesAll items (all.members who) new before after (Err error) → IsRun config (after_step all who new [] [])
  TookOne : (all : AllProcesses) (who : NodeId) (item : Item) (new : MemberParts) (out : Output) → IsRun config all
      → is_among config who ≡ true → CanBeGiven all.net all.notices who item → Takes item (all.members who) new out
      → IsRun config (after_step all who new (flat_map (datagrams_of config who) out.sends) [])
  Raised : (all : AllProcesses) (rm : ℕ) (place : Place) (new : MemberParts) (result : Result (Unit {0}) Refusal) → IsRun config all
      → is_among config (R rm) ≡ true → RaisesMember place (all.members (R rm)) new result
      → IsRun config (after_step all (R rm) new [] (told_by config rm new result))
  Restarted : (all : AllProcesses) (who : NodeId) (new : MemberParts) (result : Result (Unit {0}) Refusal) → IsRun config all
      → is_among config who ≡ true → RestartsMember (all.members who) new result → IsRun config (after_step all who new [] [])
  Compacted : (all : AllProcesses) (who : NodeId) (new : MemberParts) (result : Result (Unit {0}) Refusal) → IsRun config all
      → is_among config who ≡ true → CompactsMember (all.members who) new result → IsRun config (after_step all who new [] [])
  Viewed : (all : AllProcesses) (who : NodeId) (tx : TxParts) (new : MemberParts) (result : Result View Refusal) → IsRun config all
      → is_among config who ≡ true → AnswersView tx (all.members who) new result → IsRun config (after_step all who new [] [])
  Tabled : (all : AllProcesses) (who : NodeId) (new : MemberParts) (result : Result (List Row) Refusal) → IsRun config all
      → is_among config who ≡ true → AnswersTable (all.members who) new result → IsRun config (after_step all who new [] [])
  Armed : (all : AllProcesses) (who : NodeId) (n : ℕ) (new : MemberParts) → IsRun config all → is_among config who ≡ true
      → ArmsMember n (all.members who) new → IsRun config (after_step all who new [] [])
  Reopened : (all : AllProcesses) (who : NodeId) (new : MemberParts) → IsRun config all → is_among config who ≡ true
      → Reopens config who (all.members who) new → IsRun config (after_step all who new [] [])

-- a reply that a process gave: which one, to what it was handed, and what it says
pub record Reply : Type 0 where
  pub who : NodeId
  pub item : Item
  pub answer : Answer

-- the replies of one that took all that it was handed
abbrev pub replies_of : NodeId → List Item → List Output → List Reply
replies_of who (item ∷ items) (out ∷ outs) =
    record { who = who; item = item; answer = out.reply } ∷ replies_of who items outs
replies_of who items outs = []

-- all replies of a run but refusals of what wasn't taken, in order
abbrev pub all_replies : (config : Config) (all : AllProcesses) → IsRun config all → List Reply
all_replies config _ (Begun members begun) = []
all_replies config _ (TookAll all who items new before after run among can takes) =
    all_replies config all run ++ replies_of who items after
all_replies config _ (Failed all who items new before after error run among can takes) = all_replies config all run
all_replies config _ (TookOne all who item new out run among can takes) =
    all_replies config all run ++ record { who = who; item = item; answer = out.reply } ∷ []
all_replies config _ (Raised all rm place new result run among raises) = all_replies config all run
all_replies config _ (Restarted all who new result run among restarts) = all_replies config all run
all_replies config _ (Compacted all who new result run among compacts) = all_replies config all run
all_replies config _ (Viewed all who tx new result run among answers) = all_replies config all run
all_replies config _ (Tabled all who new result run among answers) = all_replies config all run
all_replies config _ (Armed all who n new run among arms) = all_replies config all run
all_replies config _ (Reopened all who new run among reopens) = all_replies config all run

-- so it was answered in the machine with floors
abbrev pub IsReplied : List Notice → List FlooredHappening → NodeId → Item → Answer → Type 0
IsReplied notices happened who (Acts input) answer = IsIn happened (Took who input answer)
IsReplied notices happened who (Hears notice) answer =
    (n : ℕ) × (slice_get notices n ≡ Some (notice_to who notice)) × IsIn happened (Underwent (Hear n) answer)

-- all processes stand for a world that groups lead to: each for its node, with all that was sent and told; and each reply was given there
pub record StandFor (config : Config) (all : AllProcesses) (replies : List Reply) : Type 0 where
  pub world : FlooredWorld
  pub reached : IsFlooredReached config world
  pub stand : (who : NodeId) → is_among config who ≡ true → StandsIn config world who (all.members who)
  pub net_is : world.machine.net ≡ all.net
  pub notices_are : world.notices ≡ all.notices
  pub replied : (reply : Reply) → IsIn replies reply
      → IsReplied world.notices (all_taken config world reached) reply.who reply.item reply.answer

-- a leader's process was asked to commit a transaction, or for its status, and replied so
pub record TellsClient (l : ℕ) (tx : TxParts) (standing : Standing) (reply : Reply) : Type 0 where
  pub request : Request
  pub asks : IsQuestion tx request
  pub is : reply ≡ record { who = L l; item = Acts (Asked request); answer = Stands standing }
