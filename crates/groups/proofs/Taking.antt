-- Turns come to what their moves come to, taken one at a time.
-- Needed by `idle_branches_lead_to_commit` and `turns_go_on`; Leading.
use Rattle.std.proofs.Common.{◌≡◌, ◌∙◌, ℕ, Bool, true, false, not, if◌then◌else◌, List, [], ◌∷◌, ◌++◌, Option, Some, None}
use Rattle.std.proofs.Common.{refl, sym, ap, append-nil, append_assoc}
use Rattle.std.specs.Prelude.{map}
use Rattle.std.specs.List.{AllByRecursion, flat_map}
use Rattle.std.proofs.lemmas.Grind.{flat_map-append}
use Rattle.std.proofs.lemmas.Bool.{both_ways}
use Rattle.xid.specs.declared.refusals.Refusal.TheVariants.{NoSuch}
use Rattle.stable_record.specs.declared.fact.FactKind.{FactKind as Fact}
use Rattle.protocol.specs.declared.answers.Answer.TheVariants.{Refused}
use Rattle.protocol.specs.declared.decisions.Outgoing.{Outgoing}
use Rattle.protocol.specs.declared.events.Event.TheVariants.{Restart}
use Rattle.protocol.specs.declared.nodes.NodeId.{NodeId}
use Rattle.protocol.specs.Effects.{Config, Effect}
use Rattle.protocol.specs.Nodes.{NodeState, Memory, Input, NoFault, Outcome, node_step, effect_of, accepts_input, answer_outcome}
use Rattle.protocol.specs.Nodes.{down_answer, effect_outcome}
use Rattle.protocol.specs.Worlds.{World, Datagram, node_at, datagrams_of, if_found, outcome_result, at_node, world_step}
use Rattle.safety.proofs.World.NodePlaces.{node_there}
use Rattle.groups.specs.Runs.{Handed, CanBeHanded, node_after, sends_after, group_result, IsReached, Grouped, Kept}
use Rattle.groups.specs.Turns.{Move, Restarts, Takes, Turn, Restarted, Worked, moves_of, all_moves, faultless, worked_at, after_turn}
use Rattle.groups.specs.Turns.{after_turns, IsStored, CanBeTaken, CanAllBeTaken}
use Rattle.groups.proofs.Steps.{put_twice, put_same}

-- ---- moves one after another

abbrev pub after_move : Config → World → Move → World
after_move config world (Restarts who) = (world_step config world (Restart who) NoFault).world
after_move config world (Takes who input) = (at_node config world who input NoFault).world

abbrev pub after_moves : Config → World → List Move → World
after_moves config world [] = world
after_moves config world (move ∷ moves) = after_moves config (after_move config world move) moves

after_both : (config : Config) (world : World) (first second : List Move)
    → after_moves config world (first ++ second) ≡ after_moves config (after_moves config world first) second
after_both config world [] second = refl
after_both config world (move ∷ first) second = after_both config (after_move config world move) first second

-- a world of the same nodes and datagrams
same_world : (a b : World) → a.nodes ≡ b.nodes → a.net ≡ b.net → a ≡ b
same_world a b nodes net = λ i. record { nodes = nodes i; net = net i }

module _ (config : Config) (who : NodeId) where
  -- the inputs of a group, taken one at a time, come to the group
  one_by_one : (inputs : List Input) (world : World) (node : NodeState) → node_at config world who ≡ Some node
      → after_moves config world (map (Takes who) inputs) ≡ group_result config world who node (faultless inputs) true
  one_by_one [] world node is =
      same_world world (group_result config world who node [] true) (sym (put_same config who world.nodes node is))
      (sym (append-nil world.net))
  one_by_one (input ∷ rest) world node is =
      first ∙ one_by_one rest next outcome.node (node_there config world who node outcome.node is)
      ∙ same_world (group_result config next who outcome.node (faultless rest) true)
      (group_result config world who node (faultless (input ∷ rest)) true) (put_twice config who world.nodes outcome.node last) net
    where
      outcome : Outcome
      outcome = node_step config who node input NoFault

      next : World
      next = (outcome_result config world who node.facts outcome).world

      last : NodeState
      last = node_after config who outcome.node (faultless rest)

      sends : List Outgoing
      sends = sends_after config who outcome.node (faultless rest)

      sent : List Outgoing → List Datagram
      sent all = flat_map (datagrams_of config who) all

      first : after_moves config world (map (Takes who) (input ∷ rest)) ≡ after_moves config next (map (Takes who) rest)
      first = ap (λ (o : Option NodeState). after_moves config (if_found world
          (λ found. outcome_result config world who found.facts (node_step config who found input NoFault)) o).world
          (map (Takes who) rest)) is

      net : (world.net ++ sent outcome.sends) ++ sent sends ≡ world.net ++ sent (outcome.sends ++ sends)
      net = append_assoc world.net (sent outcome.sends) (sent sends)
          ∙ ap (λ (more : List Datagram). world.net ++ more) (sym (flat_map-append (datagrams_of config who) outcome.sends sends))

  -- where there is no such node, nothing happens
  none_there : (inputs : List Input) (world : World) → node_at config world who ≡ None
      → after_moves config world (map (Takes who) inputs) ≡ world
  none_there [] world is = refl
  none_there (input ∷ rest) world is =
      ap (λ (o : Option NodeState). after_moves config (if_found world
      (λ found. outcome_result config world who found.facts (node_step config who found input NoFault)) o).world
      (map (Takes who) rest)) is
      ∙ none_there rest world is

  -- ---- a group that isn't stored

  -- where one input leaves its node down, nothing is sent of it
  unsent : (node : NodeState) (input : Input) → (node_step config who node input NoFault).node.up ≡ false
      → (node_step config who node input NoFault).sends ≡ []
  unsent node input down = by_tests (accepts_input who input) node.up e.fact node.tear down
    where
      e : Effect Memory
      e = effect_of config who node.facts node.memory input

      by_tests : (accepts up : Bool) (fact : Option Fact) (tear : Option ℕ)
          → (if not accepts then answer_outcome node (Refused NoSuch) else if not up then answer_outcome node (down_answer input)
          else effect_outcome node e fact tear NoFault).node.up ≡ false
          → (if not accepts then answer_outcome node (Refused NoSuch) else if not up then answer_outcome node (down_answer input)
          else effect_outcome node e fact tear NoFault).sends ≡ []
      by_tests false up fact tear h = refl
      by_tests true false fact tear h = refl
      by_tests true true None tear h = absurd (cc (h))
      by_tests true true (Some fact) None h = absurd (cc (h))
      by_tests true true (Some fact) (Some n) h = refl

  silent : (inputs : List Input) (node : NodeState) → IsStored config who node inputs
      → (node_after config who node (faultless inputs)).up ≡ false → sends_after config who node (faultless inputs) ≡ []
  silent [] node stored down = refl
  silent (input ∷ []) node stored down = ap (λ (sends : List Outgoing). sends ++ []) (unsent node input down)
  silent (input ∷ next ∷ rest) node stored down =
      absurd (both_ways (node_after config who node (faultless (input ∷ next ∷ rest))).up down stored)

  -- so what is sent of a group is the same as if it had been stored
  as_stored : (world : World) (node : NodeState) (group : List Handed) (up : Bool)
      → (up ≡ false → sends_after config who node group ≡ [])
      → group_result config world who node group up ≡ group_result config world who node group true
  as_stored world node group true none = refl
  as_stored world node group false none =
      same_world (group_result config world who node group false) (group_result config world who node group true) refl
      (sym (append-nil world.net)
      ∙ ap (λ (sends : List Outgoing). world.net ++ flat_map (datagrams_of config who) sends) (sym (none refl)))

  worked_is : (world : World) (inputs : List Input) (o : Option NodeState) → node_at config world who ≡ o
      → ((node : NodeState) → node_at config world who ≡ Some node → IsStored config who node inputs)
      → worked_at config world who inputs o ≡ after_moves config world (map (Takes who) inputs)
  worked_is world inputs None is stored = sym (none_there inputs world is)
  worked_is world inputs (Some node) is stored =
      as_stored world node (faultless inputs) (node_after config who node (faultless inputs)).up (silent inputs node (stored node is))
      ∙ sym (one_by_one inputs world node is)

-- ---- turns

module _ (config : Config) where
  turn_is : (world : World) (turn : Turn) → CanBeTaken config world turn
      → after_turn config world turn ≡ after_moves config world (moves_of turn)
  turn_is world (Restarted who) can = refl
  turn_is world (Worked who inputs) can = worked_is config who world inputs (node_at config world who) refl can.1

  -- whatever groups they are, turns come to what their moves come to
  pub turns_are : (turns : List Turn) (world : World) → CanAllBeTaken config world turns
      → after_turns config world turns ≡ after_moves config world (all_moves turns)
  turns_are [] world can = refl
  turns_are (turn ∷ turns) world can =
      turns_are turns (after_turn config world turn) can.1
      ∙ ap (λ (w : World). after_moves config w (all_moves turns)) (turn_is world turn can.0)
      ∙ sym (after_both config world (moves_of turn) (all_moves turns))

  -- one move as a turn
  pub move_taken : (world : World) (who : NodeId) (input : Input)
      → after_turn config world (Worked who (input ∷ [])) ≡ after_move config world (Takes who input)
  move_taken world who input = worked_is config who world (input ∷ []) (node_at config world who) refl (λ node is. tt)

  -- ---- where turns lead, groups do

  all_handed : (world : World) (who : NodeId) (inputs : List Input) → AllByRecursion (CanBeHanded world who) inputs
      → AllByRecursion (λ (handed : Handed). CanBeHanded world who handed.input) (faultless inputs)
  all_handed world who [] all = tt
  all_handed world who (input ∷ inputs) all = (all.0, all_handed world who inputs all.1)

  worked_reach : (world : World) (who : NodeId) (inputs : List Input) → IsReached config world
      → AllByRecursion (CanBeHanded world who) inputs → (o : Option NodeState) → node_at config world who ≡ o
      → IsReached config (worked_at config world who inputs o)
  worked_reach world who inputs reach all None is = reach
  worked_reach world who inputs reach all (Some node) is =
      Grouped world who node (faultless inputs) (node_after config who node (faultless inputs)).up reach is
      (all_handed world who inputs all)

  turn_reach : (world : World) (turn : Turn) → IsReached config world → CanBeTaken config world turn
      → IsReached config (after_turn config world turn)
  turn_reach world (Restarted who) reach can = Kept world (Restart who) NoFault reach refl
  turn_reach world (Worked who inputs) reach can = worked_reach world who inputs reach can.0 (node_at config world who) refl

  pub turns_reach : (turns : List Turn) (world : World) → IsReached config world → CanAllBeTaken config world turns
      → IsReached config (after_turns config world turns)
  turns_reach [] world reach can = reach
  turns_reach (turn ∷ turns) world reach can =
      turns_reach turns (after_turn config world turn) (turn_reach world turn reach can.0) can.1
