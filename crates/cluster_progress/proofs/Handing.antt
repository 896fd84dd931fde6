-- A cluster that is handed the events of a run without a fault stands for what the run leads to.
use Rattle.std.proofs.Common.{◌≡◌, ◌⊎◌, inl, inr, ◌∙◌, Bool, true, false, not, if◌then◌else◌, List}
use Rattle.std.proofs.Common.{ℕ, [], ◌∷◌, Option, Some, None, refl, sym, ap, subst}
use Rattle.std.specs.Prelude.{map}
use Rattle.std.specs.Option.{option_map_or}
use Rattle.std.proofs.lemmas.Bool.{and_parts}
use Rattle.xid.specs.Places.{Place}
use Rattle.xid.specs.Transactions.{TxParts}
use Rattle.xid.specs.declared.refusals.Refusal.TheVariants.{NoMemory, NoSuch}
use Rattle.protocol.specs.declared.answers.Answer.TheVariants.{Refused}
use Rattle.protocol.specs.declared.events.Event.{Event}
use Rattle.protocol.specs.declared.events.Event.TheVariants.{Ask, Deliver, Restart, Raise, Hear, Replace}
use Rattle.protocol.specs.declared.events.Step.{Step}
use Rattle.protocol.specs.declared.nodes.NodeId.{NodeId}
use Rattle.protocol.specs.Effects.{Config, Effect}
use Rattle.protocol.specs.Nodes.{NodeState, Memory, Input, Asked, Received, Fault, NoFault, NoMemoryBefore, NoMemoryAt, RecordFails}
use Rattle.protocol.specs.Nodes.{Outcome, effect_of, accepts_input, restart_outcome, answer_outcome, down_answer, effect_outcome}
use Rattle.protocol.specs.Worlds.{World, Datagram, StepResult, node_at, if_found, outcome_result, datagram_at, with_mark}
use Rattle.floors.specs.Nodes.{floored_node_step, forgotten_answer, is_input_below}
use Rattle.floors.specs.Worlds.{FlooredResult, FlooredWorld, at_floored_node, machine_result, step_with_floors, told_after}
use Rattle.floors.specs.Runs.{are_on, floored_after, floored_next, happens_on, LeadsFloored}
use Rattle.cluster.specs.Clusters.{ClusterParts, ClusterStands, OccursAs, BefallsIn}
use Rattle.cluster.specs.Runs.{HaveOccurred, IsFirm}
use Rattle.cluster.proofs.Following.{still_firm, no_failure}
use Rattle.cluster_progress.specs.Handing.{NoneWantsMemory, GoWell, LeadsOn}

-- want of memory is told, or it changed nothing of what there would be without it
abbrev IsTold : (told without : StepResult) → Type 0
IsTold told without = (told.answer ≡ Refused NoMemory) ⊎ (told ≡ without)

module _ (config : Config) (who : NodeId) (floor : Option Place) where
  told_at_node : (node : NodeState) (input : Input)
      → ((floored_node_step config who floor node input NoMemoryAt).answer ≡ Refused NoMemory)
      ⊎ (floored_node_step config who floor node input NoMemoryAt ≡ floored_node_step config who floor node input NoFault)
  told_at_node node input = by_tests (accepts_input who input) node.up (is_input_below floor input)
    where
      e : Effect Memory
      e = effect_of config who node.facts node.memory input

      outcome_by : Bool → Bool → Bool → Fault → Outcome
      outcome_by accepts up below fault =
          if not accepts then answer_outcome node (Refused NoSuch)
          else if not up then answer_outcome node (down_answer input)
          else if below then answer_outcome node (forgotten_answer input)
          else effect_outcome node e e.fact node.tear fault

      by_tests : (accepts up below : Bool) → ((outcome_by accepts up below NoMemoryAt).answer ≡ Refused NoMemory)
          ⊎ (outcome_by accepts up below NoMemoryAt ≡ outcome_by accepts up below NoFault)
      by_tests false up below = inr refl
      by_tests true false below = inr refl
      by_tests true true true = inr refl
      by_tests true true false = inl refl

  told_by : (world : World) (input : Input) (o : Option NodeState)
      → IsTold (if_found world (λ node.
      outcome_result config world who node.facts (floored_node_step config who floor node input NoMemoryAt)) o)
      (if_found world (λ node. outcome_result config world who node.facts (floored_node_step config who floor node input NoFault)) o)
  told_by world input None = inr refl
  told_by world input (Some node) = elim (told_at_node node input) [
    | inl told ↦ inl told
    | inr same ↦ inr (ap (outcome_result config world who node.facts) same)
  ]

told_restart : (config : Config) (who : NodeId) (world : World) (o : Option NodeState)
    → IsTold (if_found world (λ node. outcome_result config world who node.facts (restart_outcome config who node NoMemoryAt)) o)
    (if_found world (λ node. outcome_result config world who node.facts (restart_outcome config who node NoFault)) o)
told_restart config who world None = inr refl
told_restart config who world (Some node) = inl refl

module _ (config : Config) (world : FlooredWorld) where
  told_delivered : (n : ℕ) (o : Option Datagram)
      → IsTold (if_found world.machine (λ d.
      at_floored_node config (with_mark world.machine n) (world.floor d.receiver) d.receiver (Received d.message) NoMemoryAt) o)
      (if_found world.machine (λ d.
      at_floored_node config (with_mark world.machine n) (world.floor d.receiver) d.receiver (Received d.message) NoFault) o)
  told_delivered n None = inr refl
  told_delivered n (Some d) =
      let marked = with_mark world.machine n in
      told_by config d.receiver (world.floor d.receiver) marked (Received d.message) (node_at config marked d.receiver)

  -- what comes of an event of the machine in a world with floors
  abbrev of_machine : Event → StepResult → FlooredResult
  of_machine event result = record {
    world = record world { machine = result.world; told = told_after world.told event };
    answer = result.answer;
    now = result.now;
    sent = result.sent;
    noticed = [];
  }

  -- the same of such events
  lifted : (event : Event) → IsTold (machine_result config world event NoMemoryAt) (machine_result config world event NoFault)
      → ((machine_result config world event NoMemoryAt).answer ≡ Refused NoMemory)
      ⊎ (of_machine event (machine_result config world event NoMemoryAt) ≡ of_machine event (machine_result config world event NoFault))
  lifted event (inl told) = inl told
  lifted event (inr same) = inr (ap (of_machine event) same)

  -- of restarts, requests and deliveries
  told : (part : NodeId → Bool) (tx : TxParts) (event : Event) → option_map_or part (happens_on world.machine tx event) false ≡ true
      → ((step_with_floors config world event NoMemoryAt).answer ≡ Refused NoMemory)
      ⊎ (step_with_floors config world event NoMemoryAt ≡ step_with_floors config world event NoFault)
  told part tx (Restart who) at = lifted (Restart who) (told_restart config who world.machine (node_at config world.machine who))
  told part tx (Ask who request) at =
      lifted (Ask who request) (told_by config who (world.floor who) world.machine (Asked request) (node_at config world.machine who))
  told part tx (Deliver n) at = lifted (Deliver n) (told_delivered n (datagram_at world.machine.net n))
  told part tx event at = absurd (cc (at))

  -- such an event is one of the machine
  next_is : (part : NodeId → Bool) (tx : TxParts) (event : Event) → option_map_or part (happens_on world.machine tx event) false ≡ true
      → (step_with_floors config world event NoFault).world ≡ floored_next config world event
  next_is part tx (Raise rm place) at = absurd (cc (at))
  next_is part tx (Hear n) at = absurd (cc (at))
  next_is part tx (Replace who place) at = absurd (cc (at))
  next_is part tx event at = refl

  module _ (part : NodeId → Bool) (tx : TxParts) (old new : ClusterParts) (step : Step)
      (at : option_map_or part (happens_on world.machine tx step.event) false ≡ true) (some : step.answer ≡ Refused NoMemory → ⊥)
      (held : (whole : Bool) → BefallsIn config world step.event old.nodes new.nodes (RecordFails whole) → ⊥) where
    -- a step that went well comes to the world that its event leads to without a fault
    comes_by : (fault : Fault) → BefallsIn config world step.event old.nodes new.nodes fault
        → step.answer ≡ (step_with_floors config world step.event fault).answer
        → ClusterStands config new (step_with_floors config world step.event fault).world
        → ClusterStands config new (step_with_floors config world step.event NoFault).world
    comes_by NoFault befalls is there = there
    comes_by NoMemoryBefore befalls is there = absurd (some is)
    comes_by NoMemoryAt befalls is there = elim (told part tx step.event at) [
      | inl wanted ↦ absurd (some (is ∙ wanted))
      | inr same ↦ subst (λ (result : FlooredResult). ClusterStands config new result.world) same there
    ]
    comes_by (RecordFails whole) befalls is there = absurd (held whole befalls)

    comes : OccursAs config world step.event old new step
        → ClusterStands config new (step_with_floors config world step.event NoFault).world
    comes occurs = comes_by occurs.fault occurs.befalls (ap (λ (s : Step). s.answer) occurs.step_is) occurs.stands

module _ (config : Config) (part : NodeId → Bool) (tx : TxParts) where
  -- the event of the first step is at a node that takes part, and so are the others
  module _ (world : FlooredWorld) (step : Step) (steps : List Step) where
    abbrev after : FlooredWorld
    after = (step_with_floors config world step.event NoFault).world

    both : are_on config part tx world (map (λ step. step.event) (step ∷ steps)) ≡ true
        → (option_map_or part (happens_on world.machine tx step.event) false ≡ true)
        × (are_on config part tx (floored_next config world step.event) (map (λ step. step.event) steps) ≡ true)
    both at = and_parts (option_map_or part (happens_on world.machine tx step.event) false)
        (are_on config part tx (floored_next config world step.event) (map (λ step. step.event) steps)) at

    rest_on : are_on config part tx world (map (λ step. step.event) (step ∷ steps)) ≡ true
        → are_on config part tx after (map (λ step. step.event) steps) ≡ true
    rest_on at =
        let parts = both at in
        subst (λ (w : FlooredWorld). are_on config part tx w (map (λ step. step.event) steps) ≡ true)
        (sym (next_is config world part tx step.event parts.0)) parts.1

  -- one after another
  follows : (steps : List Step) (world : FlooredWorld) (first last : ClusterParts) → ClusterStands config first world
      → are_on config part tx world (map (λ step. step.event) steps) ≡ true → GoWell config world first steps last
      → ClusterStands config last (floored_after config world (map (λ step. step.event) steps))
  follows [] world first last stands at same = subst (λ (c : ClusterParts). ClusterStands config c world) (sym same) stands
  follows (step ∷ steps) world first last stands at (next, occurs, some, held, rest) =
      let parts = both world step steps at in
      subst (λ (w : FlooredWorld). ClusterStands config last (floored_after config w (map (λ step. step.event) steps)))
      (next_is config world part tx step.event parts.0)
      (follows steps (after world step steps) next last
      (comes config world part tx first next step parts.0 some held (occurs config world stands)) (rest_on world step steps at) rest)

  -- so a run with floors leads a cluster on
  pub leads_on : (P : FlooredWorld → Type 0) (world : FlooredWorld) → LeadsFloored config part tx P world → (first : ClusterParts)
      → ClusterStands config first world → LeadsOn config part tx P world first
  leads_on P world run first stands = record {
    events = run.events;
    at = run.at;
    holds = run.holds;
    leads = λ last steps same well.
        subst (λ (events : List Event). ClusterStands config last (floored_after config world events)) same
        (follows steps world first last stands
        (subst (λ (events : List Event). are_on config part tx world events ≡ true) (sym same) run.at) well);
  }

  -- records that don't fail of themselves
  pub firm_well : (steps : List Step) (world : FlooredWorld) (first last : ClusterParts) → ClusterStands config first world → IsFirm first
      → are_on config part tx world (map (λ step. step.event) steps) ≡ true → HaveOccurred first steps last → NoneWantsMemory steps
      → GoWell config world first steps last
  firm_well [] world first last stands firm at same some = same
  firm_well (step ∷ steps) world first last stands firm at (next, occurs, rest) some =
      let parts = both world step steps at in
      let here : OccursAs config world step.event first next step = occurs config world stands in
      let held = λ (whole : Bool). no_failure config world first next stands firm whole step.event in (
        next,
        occurs,
        some.0,
        held,
        firm_well steps (after world step steps) next last
            (comes config world part tx first next step parts.0 some.0 held here) (still_firm first next here.same firm)
            (rest_on world step steps at) rest some.1,
      )
