-- A restart, a compaction and an armed tear do the same to the same nodes, and send nothing.
-- Needed by Leading and Reached; crate floored_groups.
use Rattle.std.proofs.Common.{◌≡◌, ◌∙◌, Bool, true, false, if◌then◌else◌, List, [], ◌++◌, Option, Some, None, refl, sym, ap, append-nil}
use Rattle.std.specs.List.{flat_map}
use Rattle.xid.specs.declared.refusals.Refusal.TheVariants.{Down, Damaged}
use Rattle.stable_record.specs.declared.fact.FactKind.{FactKind as Fact}
use Rattle.protocol.specs.declared.answers.Answer.TheVariants.{Done, Refused}
use Rattle.protocol.specs.declared.decisions.Outgoing.{Outgoing}
use Rattle.protocol.specs.declared.events.Event.{Event}
use Rattle.protocol.specs.declared.events.Event.TheVariants.{Restart, Compact, Tear}
use Rattle.protocol.specs.declared.nodes.NodeId.{NodeId}
use Rattle.protocol.specs.Effects.{Config}
use Rattle.protocol.specs.Nodes.{NodeState, Fault, NoFault, NoMemoryBefore, NoMemoryAt, RecordFails, Outcome, restart_outcome}
use Rattle.protocol.specs.Nodes.{compact_outcome, all_play, answer_outcome, down_node, empty_memory}
use Rattle.protocol.specs.Worlds.{World, StepResult, node_at, set_node, datagrams_of, if_found, outcome_result, answer_result}
use Rattle.protocol.specs.Worlds.{dispatch, world_step}
use Rattle.groups.specs.Runs.{is_upkeep}
use Rattle.groups.proofs.Steps.{among, put}

-- ---- the same nodes

module _ (config : Config) (machine world : World) (same : machine.nodes ≡ world.nodes) where
  found_nodes : (f : World → NodeState → StepResult) → ((node : NodeState) → (f machine node).world.nodes ≡ (f world node).world.nodes)
      → (o : Option NodeState) → (if_found machine (f machine) o).world.nodes ≡ (if_found world (f world) o).world.nodes
  found_nodes f each None = same
  found_nodes f each (Some node) = each node

  -- at the same node
  at_same : (f : World → NodeState → StepResult) → ((node : NodeState) → (f machine node).world.nodes ≡ (f world node).world.nodes)
      → (who : NodeId) → (if_found machine (f machine) (node_at config machine who)).world.nodes
      ≡ (if_found world (f world) (node_at config world who)).world.nodes
  at_same f each who =
      found_nodes f each (node_at config machine who)
      ∙ ap (λ ns. (if_found world (f world) (among config ns who)).world.nodes) same

  compact_nodes : (who : NodeId) (fault : Fault) (node : NodeState) (up : Bool)
      → (if up then outcome_result config machine who node.facts (compact_outcome node fault)
      else answer_result machine (Refused Down)).world.nodes
      ≡ (if up then outcome_result config world who node.facts (compact_outcome node fault)
      else answer_result world (Refused Down)).world.nodes
  compact_nodes who fault node true = ap (put config who (compact_outcome node fault).node) same
  compact_nodes who fault node false = same

  upkeep_at : (event : Event) (fault : Fault) → is_upkeep event ≡ true
      → ((w : World) → world_step config w event fault ≡ dispatch config w event fault)
      → (world_step config machine event fault).world.nodes ≡ (world_step config world event fault).world.nodes
  upkeep_at event fault is at =
      ap (λ (r : StepResult). r.world.nodes) (at machine) ∙ by event is ∙ ap (λ (r : StepResult). r.world.nodes) (sym (at world))
    where
      by : (e : Event) → is_upkeep e ≡ true → (dispatch config machine e fault).world.nodes
          ≡ (dispatch config world e fault).world.nodes
      by (Restart who) is =
          at_same (λ w node. outcome_result config w who node.facts (restart_outcome config who node fault))
          (λ node. ap (put config who (restart_outcome config who node fault).node) same) who
      by (Compact who) is =
          at_same (λ w node. if node.up then outcome_result config w who node.facts (compact_outcome node fault)
          else answer_result w (Refused Down)) (λ node. compact_nodes who fault node node.up) who
      by (Tear who n) is =
          at_same (λ w node. answer_result (set_node config w who (record node { tear = Some n })) Done)
          (λ node. ap (put config who (record node { tear = Some n })) same) who
      by e is = absurd (cc is)

  pub upkeep_nodes : (event : Event) (fault : Fault) → is_upkeep event ≡ true
      → (world_step config machine event fault).world.nodes ≡ (world_step config world event fault).world.nodes
  upkeep_nodes event NoMemoryBefore is = same
  upkeep_nodes event NoFault is = upkeep_at event NoFault is (λ w. refl)
  upkeep_nodes event NoMemoryAt is = upkeep_at event NoMemoryAt is (λ w. refl)
  upkeep_nodes event (RecordFails whole) is = upkeep_at event (RecordFails whole) is (λ w. refl)

-- ---- the same answers

module _ (config : Config) (machine world : World) (same : machine.nodes ≡ world.nodes) where
  found_answer : (f : World → NodeState → StepResult) → ((node : NodeState) → (f machine node).answer ≡ (f world node).answer)
      → (o : Option NodeState) → (if_found machine (f machine) o).answer ≡ (if_found world (f world) o).answer
  found_answer f each None = refl
  found_answer f each (Some node) = each node

  answer_at : (f : World → NodeState → StepResult) → ((node : NodeState) → (f machine node).answer ≡ (f world node).answer)
      → (who : NodeId) → (if_found machine (f machine) (node_at config machine who)).answer
      ≡ (if_found world (f world) (node_at config world who)).answer
  answer_at f each who =
      found_answer f each (node_at config machine who)
      ∙ ap (λ ns. (if_found world (f world) (among config ns who)).answer) same

  compact_answer : (who : NodeId) (fault : Fault) (node : NodeState) (up : Bool)
      → (if up then outcome_result config machine who node.facts (compact_outcome node fault)
      else answer_result machine (Refused Down)).answer
      ≡ (if up then outcome_result config world who node.facts (compact_outcome node fault)
      else answer_result world (Refused Down)).answer
  compact_answer who fault node true = refl
  compact_answer who fault node false = refl

  answered_at : (event : Event) (fault : Fault) → is_upkeep event ≡ true
      → ((w : World) → world_step config w event fault ≡ dispatch config w event fault)
      → (world_step config machine event fault).answer ≡ (world_step config world event fault).answer
  answered_at event fault is at =
      ap (λ (r : StepResult). r.answer) (at machine) ∙ by event is ∙ ap (λ (r : StepResult). r.answer) (sym (at world))
    where
      by : (e : Event) → is_upkeep e ≡ true → (dispatch config machine e fault).answer ≡ (dispatch config world e fault).answer
      by (Restart who) is =
          answer_at (λ w node. outcome_result config w who node.facts (restart_outcome config who node fault)) (λ node. refl) who
      by (Compact who) is =
          answer_at (λ w node. if node.up then outcome_result config w who node.facts (compact_outcome node fault)
          else answer_result w (Refused Down)) (λ node. compact_answer who fault node node.up) who
      by (Tear who n) is =
          answer_at (λ w node. answer_result (set_node config w who (record node { tear = Some n })) Done) (λ node. refl) who
      by e is = absurd (cc is)

  pub upkeep_answer : (event : Event) (fault : Fault) → is_upkeep event ≡ true
      → (world_step config machine event fault).answer ≡ (world_step config world event fault).answer
  upkeep_answer event NoMemoryBefore is = refl
  upkeep_answer event NoFault is = answered_at event NoFault is (λ w. refl)
  upkeep_answer event NoMemoryAt is = answered_at event NoMemoryAt is (λ w. refl)
  upkeep_answer event (RecordFails whole) is = answered_at event (RecordFails whole) is (λ w. refl)

-- ---- nothing is sent

module _ (config : Config) (who : NodeId) (node : NodeState) where
  restart_by : (plays : Bool)
      → (if plays then answer_outcome (record { facts = node.facts; up = true; tear = node.tear; memory = empty_memory }) Done
      else answer_outcome (down_node node) (Refused Damaged)).sends ≡ []
  restart_by true = refl
  restart_by false = refl

  restart_sends : (fault : Fault) → (restart_outcome config who node fault).sends ≡ []
  restart_sends NoMemoryAt = refl
  restart_sends (RecordFails whole) = refl
  restart_sends NoFault = restart_by (all_play config who [] node.facts)
  restart_sends NoMemoryBefore = restart_by (all_play config who [] node.facts)

  compact_sends : (fault : Fault) → (compact_outcome node fault).sends ≡ []
  compact_sends NoMemoryAt = refl
  compact_sends (RecordFails whole) = refl
  compact_sends NoFault = refl
  compact_sends NoMemoryBefore = refl

module _ (config : Config) (w : World) where
  none_sent : (who : NodeId) (before : List Fact) (outcome : Outcome) → outcome.sends ≡ []
      → (outcome_result config w who before outcome).world.net ≡ w.net
  none_sent who before outcome none =
      ap (λ (sends : List Outgoing). w.net ++ flat_map (datagrams_of config who) sends) none ∙ append-nil w.net

  found_net : (f : NodeState → StepResult) → ((node : NodeState) → (f node).world.net ≡ w.net) → (o : Option NodeState)
      → (if_found w f o).world.net ≡ w.net
  found_net f each None = refl
  found_net f each (Some node) = each node

  compact_net : (who : NodeId) (fault : Fault) (node : NodeState) (up : Bool)
      → (if up then outcome_result config w who node.facts (compact_outcome node fault) else answer_result w (Refused Down)).world.net ≡
      w.net
  compact_net who fault node true = none_sent who node.facts (compact_outcome node fault) (compact_sends config who node fault)
  compact_net who fault node false = refl

  net_by : (event : Event) (fault : Fault) → is_upkeep event ≡ true → (dispatch config w event fault).world.net ≡ w.net
  net_by (Restart who) fault is =
      found_net (λ node. outcome_result config w who node.facts (restart_outcome config who node fault))
      (λ node. none_sent who node.facts (restart_outcome config who node fault) (restart_sends config who node fault))
      (node_at config w who)
  net_by (Compact who) fault is =
      found_net (λ node. if node.up then outcome_result config w who node.facts (compact_outcome node fault)
      else answer_result w (Refused Down)) (λ node. compact_net who fault node node.up) (node_at config w who)
  net_by (Tear who n) fault is =
      found_net (λ node. answer_result (set_node config w who (record node { tear = Some n })) Done)
      (λ node. set_net who (record node { tear = Some n })) (node_at config w who)
    where
      set_net : (who : NodeId) (node : NodeState) → (set_node config w who node).net ≡ w.net
      set_net who node = refl
  net_by event fault is = absurd (cc is)

  pub upkeep_net : (event : Event) (fault : Fault) → is_upkeep event ≡ true → (world_step config w event fault).world.net ≡ w.net
  upkeep_net event NoMemoryBefore is = refl
  upkeep_net event NoFault is = net_by event NoFault is
  upkeep_net event NoMemoryAt is = net_by event NoMemoryAt is
  upkeep_net event (RecordFails whole) is = net_by event (RecordFails whole) is
