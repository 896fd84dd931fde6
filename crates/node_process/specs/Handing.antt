-- What of a group's items the node is handed, and what comes of it.
use Rattle.std.specs.Prelude.{◌≡◌, ◌⊎◌, ℕ, List, [], ◌∷◌, length, map, Ok, Err}
use Rattle.std.specs.List.{flat_map}
use Rattle.stable_record.specs.declared.record.RecordError.{RecordError}
use Rattle.protocol.specs.Effects.{Config}
use Rattle.protocol.specs.Nodes.{NodeState, Asked}
use Rattle.protocol.specs.declared.nodes.NodeId.{NodeId}
use Rattle.protocol.specs.declared.requests.Request.{Request}
use Rattle.node_core.specs.declared.output.Input.{Input}
use Rattle.node_core.specs.declared.output.Input.TheVariants as inputs
use Rattle.node_core.specs.declared.output.Output.{Output}
use Rattle.floored.specs.Nodes.{FlooredStands}
use Rattle.port.specs.Calls.{Sending, datagrams_from}
use Rattle.port.specs.Members.{Acts, MemberParts, TakesAll, item_at}
use Rattle.port.specs.Members.{Item as MemberItem}
use Rattle.letter_port.specs.LetterPorts.{LetterParts, SendsOut}
use Rattle.letter_port.specs.Mails.{mail_of}
use Rattle.serving.specs.declared.group.Work.{Work}
use Rattle.serving.specs.declared.group.Work.TheVariants.{Take, Ask}
use Rattle.serving.specs.declared.group.Item.{Item}

-- what a node is given: a request, or the bytes of a message
pub data Given : Type 0 where
  Request_given : (request : Request) → Given
  Bytes_given : (bytes : List ℕ) → Given

-- what an input gives to a node
abbrev pub given_of : Input → Given
given_of (inputs.Asked request) = Request_given request.now
given_of (inputs.Received bytes) = Bytes_given bytes.now

-- what a piece of work gives to it, if it is handed to the node
abbrev pub given_by : Work → List Given
given_by (Take bytes) = Bytes_given bytes ∷ []
given_by (Ask request) = Request_given request ∷ []
given_by work = []

-- what the items of a group give to it, in their order
abbrev pub handed_of : List Item → List Given
handed_of items = flat_map (λ item. given_by item.work) items

-- what a node with a floor makes of what it is given: a notice, or an input of the machine
abbrev pub item_given : NodeId → Given → MemberItem
item_given who (Request_given request) = Acts (Asked request)
item_given who (Bytes_given bytes) = item_at who bytes

-- the same of the items of a group, in their order
abbrev pub handed_to : NodeId → List Item → List MemberItem
handed_to who items = map (item_given who) (handed_of items)

-- a group was handed to a node at its port, and stored: the node took just what its items give, there is what came of each of these, and
-- then went just what is to be sent of it
pub record Hands {P : Type 0} (Sent : Sending P) (items : List Item) (was is : MemberParts) (before after : LetterParts P)
    (outs : List Output) : Type 0 where
  pub room : List Output
  pub takes : TakesAll (handed_to was.floored.node.who items) was is room outs (Ok tt)
  pub count : length outs ≡ length (handed_of items)
  pub sends : (config : Config) (m : NodeState) → FlooredStands config was.floored m
      → SendsOut Sent before after (map mail_of (flat_map (datagrams_from config was.floored.node.who) outs))
  pub left : after.left ≡ before.left

-- a group was handed to a node, and its append was refused
pub record IsStopped (items : List Item) (was is : MemberParts) : Type 0 where
  pub room : List Output
  pub outs : List Output
  pub error : RecordError
  pub takes : TakesAll (handed_to was.floored.node.who items) was is room outs (Err error)

-- a group wasn't stored: there was no memory to hand it to the node, or its append was refused
abbrev pub IsUnhanded : List Item → (was is : MemberParts) → Type 0
IsUnhanded items was is = (is ≡ was) ⊎ IsStopped items was is
