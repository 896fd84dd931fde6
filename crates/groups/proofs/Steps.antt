-- One input at a node is an event of the machine, in whatever world has the node and, where a message is received, a datagram of it.
-- Needed by Following, Leading, Reached, Taking and Upkeep; crate floored_groups.
use Rattle.std.proofs.Common.{◌≡◌, ◌∙◌, ℕ, zero, suc, Bool, true, false, not, if◌then◌else◌, List, [], ◌∷◌, ◌++◌, Option, Some, None}
use Rattle.std.proofs.Common.{refl, sym, ap, subst}
use Rattle.std.specs.Prelude.{slice_get}
use Rattle.std.specs.List.{slice_set}
use Rattle.std.specs.Option.{option_and_then, option_map_or}
use Rattle.ballot.specs.Greatest.{IsIn}
use Rattle.wire.specs.declared.message.Kind.{Kind}
use Rattle.stable_record.specs.declared.fact.FactKind.{FactKind as Fact}
use Rattle.xid.specs.declared.refusals.Refusal.TheVariants.{NoSuch}
use Rattle.protocol.specs.declared.answers.Answer.TheVariants.{Refused}
use Rattle.protocol.specs.declared.events.Event.{Event}
use Rattle.protocol.specs.declared.events.Event.TheVariants.{Ask, Deliver, Noise}
use Rattle.protocol.specs.declared.nodes.NodeId.{NodeId}
use Rattle.protocol.specs.declared.requests.Request.{Request}
use Rattle.protocol.specs.Effects.{Config, Effect}
use Rattle.protocol.specs.Nodes.{NodeState, Memory, Input, Asked, Received, ReceivedNoise, Fault, NoFault, NoMemoryBefore, NoMemoryAt}
use Rattle.protocol.specs.Nodes.{RecordFails, Outcome, node_step, effect_of, accepts_input, answer_outcome, down_answer, effect_outcome}
use Rattle.protocol.specs.Worlds.{World, Datagram, StepResult, place, node_at, if_found, outcome_result, at_node}
use Rattle.protocol.specs.Worlds.{datagram_at, with_mark, mark_at, dispatch, world_step}
use Rattle.groups.specs.Runs.{Hands}
use Rattle.progress.proofs.Mail.{Letter, mail, marked_mail, deliverable, letters, posted_mail}

-- ---- nodes in a place

-- the node of a name among nodes
abbrev pub among : Config → List NodeState → NodeId → Option NodeState
among config nodes who = option_and_then (λ at. slice_get nodes at) (place config who)

-- nodes with another in the place of a name
abbrev pub put : Config → NodeId → NodeState → List NodeState → List NodeState
put config who node nodes = option_map_or (λ at. slice_set nodes at node) (place config who) nodes

set_twice : {X : Type 0} (xs : List X) (p : ℕ) (x y : X) → slice_set (slice_set xs p x) p y ≡ slice_set xs p y
set_twice [] p x y = refl
set_twice (z ∷ xs) zero x y = refl
set_twice (z ∷ xs) (suc p) x y = ap (λ rest. z ∷ rest) (set_twice xs p x y)

set_same : {X : Type 0} (xs : List X) (p : ℕ) (x : X) → slice_get xs p ≡ Some x → slice_set xs p x ≡ xs
set_same [] p x h = refl
set_same (z ∷ xs) zero x h = let same : z ≡ x = cc (h) in ap (λ y. y ∷ xs) (sym same)
set_same (z ∷ xs) (suc p) x h = ap (λ rest. z ∷ rest) (set_same xs p x h)

twice_by : (nodes : List NodeState) (x y : NodeState) (o : Option ℕ)
    → option_map_or (λ at. slice_set (option_map_or (λ p. slice_set nodes p x) o nodes) at y) o
    (option_map_or (λ p. slice_set nodes p x) o nodes)
    ≡ option_map_or (λ at. slice_set nodes at y) o nodes
twice_by nodes x y None = refl
twice_by nodes x y (Some p) = set_twice nodes p x y

pub put_twice : (config : Config) (who : NodeId) (nodes : List NodeState) (x y : NodeState)
    → put config who y (put config who x nodes) ≡ put config who y nodes
put_twice config who nodes x y = twice_by nodes x y (place config who)

same_by : (nodes : List NodeState) (x : NodeState) (o : Option ℕ) → option_and_then (λ at. slice_get nodes at) o ≡ Some x
    → option_map_or (λ at. slice_set nodes at x) o nodes ≡ nodes
same_by nodes x None h = refl
same_by nodes x (Some p) h = set_same nodes p x h

pub put_same : (config : Config) (who : NodeId) (nodes : List NodeState) (x : NodeState) → among config nodes who ≡ Some x
    → put config who x nodes ≡ nodes
put_same config who nodes x h = same_by nodes x (place config who) h

-- ---- one input

-- an event leads to the nodes of an outcome, and to the letters of its sends
pub record Comes (config : Config) (machine : World) (who : NodeId) (input : Input) (outcome : Outcome) : Type 0 where
  pub event : Event
  pub fault : Fault
  pub hands : Hands machine event who input
  pub answer_is : (world_step config machine event fault).answer ≡ outcome.answer
  pub nodes_are : (world_step config machine event fault).world.nodes ≡ put config who outcome.node machine.nodes
  pub mail_is : mail (world_step config machine event fault).world.net ≡ mail machine.net ++ letters config outcome.sends

-- want of memory before a node is reached isn't told from no fault at the node
unreached : (config : Config) (who : NodeId) (node : NodeState) (input : Input)
    → node_step config who node input NoFault ≡ node_step config who node input NoMemoryBefore
unreached config who node input = by_tests (accepts_input who input) node.up e.fact node.tear
  where
    e : Effect Memory
    e = effect_of config who node.facts node.memory input

    by_tests : (accepts up : Bool) (fact : Option Fact) (tear : Option ℕ)
        → (if not accepts then answer_outcome node (Refused NoSuch) else if not up then answer_outcome node (down_answer input)
        else effect_outcome node e fact tear NoFault)
        ≡ (if not accepts then answer_outcome node (Refused NoSuch) else if not up then answer_outcome node (down_answer input)
        else effect_outcome node e fact tear NoMemoryBefore)
    by_tests false up fact tear = refl
    by_tests true false fact tear = refl
    by_tests true true None tear = refl
    by_tests true true (Some fact) None = refl
    by_tests true true (Some fact) (Some n) = refl

module _ (config : Config) (machine : World) (who : NodeId) (node : NodeState) (is : node_at config machine who ≡ Some node) where
  -- an input at the node
  at_it : (world : World) (input : Input) (fault : Fault) → node_at config world who ≡ Some node
      → at_node config world who input fault ≡ outcome_result config world who node.facts (node_step config who node input fault)
  at_it world input fault here =
      ap (if_found world (λ found. outcome_result config world who found.facts (node_step config who found input fault))) here

  -- what it comes to, where marks are another's
  comes_by : (input : Input) (fault : Fault) (event : Event) (net : List Datagram) → Hands machine event who input
      → mail net ≡ mail machine.net
      → world_step config machine event fault
      ≡ outcome_result config (record machine { net = net }) who node.facts (node_step config who node input fault)
      → Comes config machine who input (node_step config who node input fault)
  comes_by input fault event net hands same e = record {
    event = event;
    fault = fault;
    hands = hands;
    answer_is = ap (λ (r : StepResult). r.answer) e;
    nodes_are = ap (λ (r : StepResult). r.world.nodes) e;
    mail_is =
        ap (λ (r : StepResult). mail r.world.net) e
        ∙ posted_mail config who net (node_step config who node input fault).sends
        ∙ ap (λ (ls : List Letter). ls ++ letters config (node_step config who node input fault).sends) same;
  }

  -- a fault at which the node is reached
  abbrev IsAt : Fault → Type 0
  IsAt fault = (event : Event) → world_step config machine event fault ≡ dispatch config machine event fault

  asked : (request : Request) (fault : Fault) → IsAt fault
      → Comes config machine who (Asked request) (node_step config who node (Asked request) fault)
  asked request fault at =
      comes_by (Asked request) fault (Ask who request) machine.net refl refl (at (Ask who request) ∙ at_it machine (Asked request) fault is)

  heard : (message : Kind) → IsIn (mail machine.net) (record { receiver = who; message = message }) → (fault : Fault) → IsAt fault
      → Comes config machine who (Received message) (node_step config who node (Received message) fault)
  heard message among_mail fault at =
      let d = deliverable machine.net (record { receiver = who; message = message }) among_mail in
      let marked : World = with_mark machine d.number in
      let to : if_found machine (λ x. at_node config marked x.receiver (Received x.message) fault) (datagram_at machine.net d.number)
      ≡ at_node config marked d.datagram.receiver (Received d.datagram.message) fault =
      ap (if_found machine (λ x. at_node config marked x.receiver (Received x.message) fault)) d.there in
      let it : at_node config marked d.datagram.receiver (Received d.datagram.message) fault
      ≡ at_node config marked who (Received message) fault =
      ap (λ (l : Letter). at_node config marked l.receiver (Received l.message) fault) d.is in
      comes_by (Received message) fault (Deliver d.number) (mark_at machine.net d.number)
      (d.number, d.datagram, refl, d.there, ap (λ (l : Letter). l.receiver) d.is, ap (λ (l : Letter). l.message) d.is)
      (marked_mail machine.net d.number)
      (at (Deliver d.number) ∙ to ∙ it ∙ at_it marked (Received message) fault is)

  noise : (fault : Fault) → IsAt fault → Comes config machine who ReceivedNoise (node_step config who node ReceivedNoise fault)
  noise fault at =
      comes_by ReceivedNoise fault (Noise who []) machine.net ([], refl) refl (at (Noise who []) ∙ at_it machine ReceivedNoise fault is)

  -- what can be received was sent
  abbrev pub IsMailed : Input → Type 0
  IsMailed (Asked request) = Unit {0}
  IsMailed (Received message) = IsIn (mail machine.net) (record { receiver = who; message = message })
  IsMailed ReceivedNoise = Unit {0}

  by_input : (input : Input) → IsMailed input → (fault : Fault) → IsAt fault
      → Comes config machine who input (node_step config who node input fault)
  by_input (Asked request) mailed fault at = asked request fault at
  by_input (Received message) mailed fault at = heard message mailed fault at
  by_input ReceivedNoise mailed fault at = noise fault at

  pub step_comes : (input : Input) → IsMailed input → (fault : Fault)
      → Comes config machine who input (node_step config who node input fault)
  step_comes input mailed NoFault = by_input input mailed NoFault (λ event. refl)
  step_comes input mailed NoMemoryAt = by_input input mailed NoMemoryAt (λ event. refl)
  step_comes input mailed (RecordFails whole) = by_input input mailed (RecordFails whole) (λ event. refl)
  step_comes input mailed NoMemoryBefore =
      subst (Comes config machine who input) (unreached config who node input) (by_input input mailed NoFault (λ event. refl))
