-- Turns of nodes that no fault meets but an armed tear: a restart, or a group of inputs, one of them or many.
use Rattle.std.specs.Prelude.{◌≡◌, Bool, true, false, ◌&&◌, List, [], ◌∷◌, map, Option, Some, None}
use Rattle.std.specs.List.{AllByRecursion, flat_map, list_all}
use Rattle.xid.specs.Transactions.{TxParts, tx_eq}
use Rattle.protocol.specs.declared.events.Event.TheVariants.{Restart}
use Rattle.protocol.specs.declared.nodes.NodeId.{NodeId}
use Rattle.protocol.specs.declared.requests.Request.TheVariants.{Timeout}
use Rattle.protocol.specs.Effects.{Config}
use Rattle.protocol.specs.Nodes.{NodeState, Input, Asked, Received, NoFault}
use Rattle.protocol.specs.Worlds.{World, node_at, world_step}
use Rattle.groups.specs.Runs.{Handed, CanBeHanded, node_after, group_result}

-- what a node does at a time: it is restarted, or takes one input
pub data Move : Type 0 where
  Restarts : (who : NodeId) → Move
  Takes : (who : NodeId) (input : Input) → Move

-- what a node does in a turn: it is restarted, or works on a group of inputs
pub data Turn : Type 0 where
  Restarted : (who : NodeId) → Turn
  Worked : (who : NodeId) (inputs : List Input) → Turn

-- the moves of a turn
abbrev pub moves_of : Turn → List Move
moves_of (Restarted who) = Restarts who ∷ []
moves_of (Worked who inputs) = map (Takes who) inputs

-- the moves of turns, in order
abbrev pub all_moves : List Turn → List Move
all_moves turns = flat_map moves_of turns

-- a move as a turn of its own: a group of one
abbrev pub one_turn : Move → Turn
one_turn (Restarts who) = Restarted who
one_turn (Takes who input) = Worked who (input ∷ [])

-- inputs that no fault meets
abbrev pub faultless : List Input → List Handed
faultless inputs = map (λ input. record { input = input; fault = NoFault }) inputs

-- the world after a group, if there is such a node. Where a tear stops its append, the node is down, and nothing of the group is sent
abbrev pub worked_at : Config → World → NodeId → List Input → Option NodeState → World
worked_at config world who inputs None = world
worked_at config world who inputs (Some node) =
    group_result config world who node (faultless inputs) (node_after config who node (faultless inputs)).up

-- the world after a turn
abbrev pub after_turn : Config → World → Turn → World
after_turn config world (Restarted who) = (world_step config world (Restart who) NoFault).world
after_turn config world (Worked who inputs) = worked_at config world who inputs (node_at config world who)

-- the world after turns, one after another
abbrev pub after_turns : Config → World → List Turn → World
after_turns config world [] = world
after_turns config world (turn ∷ turns) = after_turns config (after_turn config world turn) turns

-- the append of a group isn't stopped, if it is a group of many
abbrev pub IsStored : Config → NodeId → NodeState → List Input → Type 0
IsStored config who node [] = Unit {0}
IsStored config who node (input ∷ []) = Unit {0}
IsStored config who node inputs = (node_after config who node (faultless inputs)).up ≡ true

-- a turn can be taken in a world: what its node is handed was sent to it before, and a group of many is stored
abbrev pub CanBeTaken : Config → World → Turn → Type 0
CanBeTaken config world (Restarted who) = Unit {0}
CanBeTaken config world (Worked who inputs) =
    AllByRecursion (CanBeHanded world who) inputs
    × ((node : NodeState) → node_at config world who ≡ Some node → IsStored config who node inputs)

-- turns can be taken one after another
abbrev pub CanAllBeTaken : Config → World → List Turn → Type 0
CanAllBeTaken config world [] = Unit {0}
CanAllBeTaken config world (turn ∷ turns) = CanBeTaken config world turn × CanAllBeTaken config (after_turn config world turn) turns

-- whether a move is a restart, a timeout of a transaction or a delivery, at a node that takes part
abbrev pub is_move_of : (NodeId → Bool) → TxParts → Move → Bool
is_move_of takes_part tx (Restarts who) = takes_part who
is_move_of takes_part tx (Takes who (Asked (Timeout other))) = takes_part who && tx_eq tx other
is_move_of takes_part tx (Takes who (Received message)) = takes_part who
is_move_of takes_part tx move = false

-- a world from which such moves lead to one with a property. Each can be a turn of its own; and in whatever groups the nodes take them,
-- one or many at a time, they lead there
pub record LeadsInTurns (config : Config) (takes_part : NodeId → Bool) (tx : TxParts) (P : World → Type 0) (world : World) : Type 0 where
  pub moves : List Move
  pub at : list_all (is_move_of takes_part tx) moves ≡ true
  pub each : CanAllBeTaken config world (map one_turn moves)
  pub holds : (turns : List Turn) → all_moves turns ≡ moves → CanAllBeTaken config world turns → P (after_turns config world turns)
