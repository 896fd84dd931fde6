-- A node with a floor, with what it was told of floors; and what one thing that it is handed, or a group of them, makes of both.
use Rattle.std.specs.Prelude.{◌≡◌, ◌⊎◌, ℕ, Bool, true, false, if◌then◌else◌, MatchBool, List, [], ◌∷◌, length, map, replicate}
use Rattle.std.specs.Prelude.{Option, Some, None, is_some, Result, Ok, Err}
use Rattle.std.specs.List.{list_any}
use Rattle.std.specs.Option.{option_map_or}
use Rattle.xid.specs.Places.{Place}
use Rattle.xid.specs.declared.refusals.Refusal.{Refusal}
use Rattle.xid.specs.declared.refusals.Refusal.TheVariants.{Down}
use Rattle.wire.specs.Notices.{notice_at}
use Rattle.wire.specs.declared.notice.Notice.{Notice}
use Rattle.stable_record.specs.declared.record.RecordError.{RecordError}
use Rattle.stable_record.specs.declared.record.RecordError.TheVariants.{Memory}
use Rattle.protocol.specs.declared.answers.Answer.TheVariants.{Refused}
use Rattle.protocol.specs.declared.nodes.NodeId.{NodeId}
use Rattle.protocol.specs.Effects.{Config}
use Rattle.protocol.specs.Nodes.{NodeState, Input, ReceivedNoise}
use Rattle.node_core.specs.declared.config.Sizes.{Sizes}
use Rattle.node_core.specs.declared.output.Input.{Input as Handed}
use Rattle.node_core.specs.declared.output.Input.TheVariants as inputs
use Rattle.node_core.specs.declared.output.Output.{Output}
use Rattle.node_core.specs.Compacting.{CompactsAs}
use Rattle.node_core.specs.Groups.{GroupsAs}
use Rattle.node_core.specs.Nodes.{NodeStands, datagram_input, input_of}
use Rattle.node_core.specs.Opening.{RestartsAs, restart_answer}
use Rattle.node_core.specs.Storing.{output_of}
use Rattle.floors.specs.Nodes.{is_input_below}
use Rattle.floors.specs.Worlds.{is_manager, least_told}
use Rattle.floored.specs.Nodes.{FlooredCompacts, FlooredGroupsAs, FlooredParts, FlooredRaises, FlooredRestarts, FlooredStands}
use Rattle.floored.specs.Nodes.{FlooredStepsAs}
use Rattle.floored.specs.Told.{HasHeard, told_at}

-- a node with a floor, and what it was told, since it was last started, of the floors of resource managers, of each at its number
pub record MemberParts : Type 0 where
  pub floored : FlooredParts
  pub told : List (Option Place)

-- a member of these parts
abbrev pub member_of : FlooredParts → List (Option Place) → MemberParts
member_of floored told = record { floored = floored; told = told }

-- each member is one of a cluster of these sizes, stands for some node of the machine with floors there, and has room for what each
-- resource manager tells
pub record IsMember (sizes : Sizes) (floored : FlooredParts) (told : List (Option Place)) : Type 0 where
  pub sizes_are : floored.node.sizes ≡ sizes
  pub told_are : length told ≡ sizes.managers
  pub config : Config
  pub state : NodeState
  pub is : FlooredStands config floored state

-- ---- what it is handed

-- an input of the machine, or a notice of a floor
pub data Item : Type 0 where
  Acts : (input : Input) → Item
  Hears : (notice : Notice) → Item

-- the notice that the bytes of a datagram are to a node: to a resource manager notices say nothing
abbrev pub notice_for : NodeId → List ℕ → Option Notice
notice_for who bytes = if is_manager who then None else notice_at bytes

-- the notice that something is to a node
abbrev pub notice_in : NodeId → Handed → Option Notice
notice_in who (inputs.Asked request) = None
notice_in who (inputs.Received bytes) = notice_for who bytes.now

-- what a node is handed: a notice, or an input of the machine
abbrev pub item_of : NodeId → Handed → Item
item_of who input = option_map_or Hears (notice_in who input) (Acts (input_of input))

-- the same by the bytes of a datagram
abbrev pub item_at : NodeId → List ℕ → Item
item_at who bytes = option_map_or Hears (notice_for who bytes) (Acts (datagram_input bytes))

-- ---- what one makes of it

-- an input was handled as the machine's node with a floor handles it; what was told stays
pub record ActsAs (config : Config) (m : NodeState) (input : Input) (old new : MemberParts) (out : Output) : Type 0 where
  pub steps : FlooredStepsAs config m input old.floored new.floored out
  pub told_is : new.told ≡ old.told

-- a floor was to rise to the least that was told; where there is none, nothing came of it
abbrev pub RisesToLeast : Config → NodeState → Option Place → (old new : FlooredParts) → Result (Unit {0}) Refusal → Type 0
RisesToLeast config m None old new result = (new ≡ old) × (result ≡ Ok tt)
RisesToLeast config m (Some place) old new result = FlooredRaises config m place old new result

-- a node that is up heard a notice: it keeps that in memory, and its floor was to rise to the least then that it was told of all resource
-- managers; what came of that is its answer
pub record HearsUp (config : Config) (m : NodeState) (notice : Notice) (old new : MemberParts) (out : Output) : Type 0 where
  pub heard : HasHeard notice old.told new.told
  pub result : Result (Unit {0}) Refusal
  pub rises : RisesToLeast config m (least_told config (told_at new.told)) old.floored new.floored result
  pub out_is : out ≡ output_of (restart_answer result) None

-- one that is down heard nothing
abbrev pub HearsAs : Config → NodeState → Notice → (old new : MemberParts) → Output → Type 0
HearsAs config m notice old new out =
    MatchBool (is_some old.floored.node.role) (HearsUp config m notice old new out)
    ((new ≡ old) × (out ≡ output_of (Refused Down) None))

-- what came of one thing that a member was handed
abbrev pub TakesAs : Config → NodeState → Item → (old new : MemberParts) → Output → Type 0
TakesAs config m (Acts input) old new out = ActsAs config m input old new out
TakesAs config m (Hears notice) old new out = HearsAs config m notice old new out

-- whatever node of the machine it stood for
abbrev pub Takes : Item → (old new : MemberParts) → Output → Type 0
Takes item old new out = (config : Config) (m : NodeState) → FlooredStands config old.floored m → TakesAs config m item old new out

-- ---- what many make of it

-- whether something is set aside from a group: what is below the floor, and a notice
abbrev pub is_aside : Option Place → Item → Bool
is_aside floor (Acts input) = is_input_below floor input
is_aside floor (Hears notice) = true

-- what stands for something in a group: where it is set aside, noise, with which a node does nothing
abbrev pub grouped : Option Place → Item → Input
grouped floor (Acts input) = if is_input_below floor input then ReceivedNoise else input
grouped floor (Hears notice) = ReceivedNoise

-- all but what is set aside was handled as a group, with one append at most; what was told stays
pub record TakesGroup (items : List Item) (old new : MemberParts) (outs : List Output) (result : Result (Unit {0}) RecordError) : Type 0
  where
    pub machine : (config : Config) (m : NodeState) → FlooredStands config old.floored m
        → FlooredGroupsAs config m (map (grouped old.floored.floor) items) old.floored new.floored outs result
    pub node : (config : Config) (m : NodeState) → NodeStands config old.floored.node m
        → GroupsAs config m (map (grouped old.floored.floor) items) old.floored.node new.floored.node outs result
    pub told_is : new.told ≡ old.told

-- something was taken, or not
abbrev pub TakesIf : Bool → Item → (old new : MemberParts) → (was out : Output) → Type 0
TakesIf true item old new was out = Takes item old new out
TakesIf false item old new was out = (new ≡ old) × (out ≡ was)

-- those that are marked were taken one after another, each alone, and what came of each stands in its place; for the others there stands
-- what did before
abbrev pub TakesThose : (marks : List Bool) → List Item → (old new : MemberParts) → (before after : List Output) → Type 0
TakesThose [] [] old new [] [] = new ≡ old
TakesThose (mark ∷ marks) (item ∷ items) old new (was ∷ before) (out ∷ after) =
    (next : MemberParts) × TakesIf mark item old next was out × TakesThose marks items next new before after
TakesThose marks items old new before after = ⊥

-- at a node that is up: a group, and then, one after another, what was set aside from it
pub record TakesApart (items : List Item) (old new : MemberParts) (outs : List Output) : Type 0 where
  pub between : MemberParts
  pub middle : List Output
  pub group : TakesGroup items old between middle (Ok tt)
  pub asides : TakesThose (map (is_aside old.floored.floor) items) items between new middle outs

-- there was no memory to set something aside: nothing happened
pub record IsUntaken (items : List Item) (old new : MemberParts) (before after : List Output) (error : RecordError) : Type 0 where
  pub some : list_any (is_aside old.floored.floor) items ≡ true
  pub error_is : error ≡ Memory
  pub new_is : new ≡ old
  pub outs_are : after ≡ before

-- what came of all that a member was handed at once: where it is down, of each alone
abbrev pub TakesAll : List Item → (old new : MemberParts) → (before after : List Output) → Result (Unit {0}) RecordError → Type 0
TakesAll items old new before after (Ok done) =
    MatchBool (is_some old.floored.node.role) (TakesApart items old new after)
    (TakesThose (map (λ item. true) items) items old new before after)
TakesAll items old new before after (Err error) = TakesGroup items old new after (Err error) ⊎ IsUntaken items old new before after error

-- ---- restarted, made shorter, and raised

-- a node was restarted: it has its floor still, and forgot what it was told
pub record RestartsMember (old new : MemberParts) (result : Result (Unit {0}) Refusal) : Type 0 where
  pub machine : (config : Config) (m : NodeState) → FlooredStands config old.floored m
      → FlooredRestarts config m old.floored new.floored result
  pub node : (config : Config) (m : NodeState) → NodeStands config old.floored.node m
      → RestartsAs config m old.floored.node new.floored.node result
  pub told_is : new.told ≡ replicate (length old.told) None

-- its record was made shorter
pub record CompactsMember (old new : MemberParts) (result : Result (Unit {0}) Refusal) : Type 0 where
  pub machine : (config : Config) (m : NodeState) → FlooredStands config old.floored m
      → FlooredCompacts config m old.floored new.floored result
  pub node : (config : Config) (m : NodeState) → NodeStands config old.floored.node m
      → CompactsAs config m old.floored.node new.floored.node result
  pub told_is : new.told ≡ old.told

-- its floor was to rise to a place
pub record RaisesMember (place : Place) (old new : MemberParts) (result : Result (Unit {0}) Refusal) : Type 0 where
  pub machine : (config : Config) (m : NodeState) → FlooredStands config old.floored m
      → FlooredRaises config m place old.floored new.floored result
  pub told_is : new.told ≡ old.told
