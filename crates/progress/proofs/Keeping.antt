-- What a run leaves of the records: every fact stays, and nodes that take no part are as they were.
use Rattle.std.proofs.Common.{◌≡◌, inl, inr, ◌∙◌, ℕ, Bool, true, false, if◌then◌else◌, List, [], ◌∷◌, Option, Some, None, refl, sym, subst}
use Rattle.std.specs.Option.{option_map, option_map_or, option_to_list}
use Rattle.std.proofs.lemmas.Bool.{and_parts, cond_both}
use Rattle.xid.specs.Transactions.{TxParts, tx_eq}
use Rattle.xid.specs.declared.refusals.Refusal.TheVariants.{Damaged}
use Rattle.ballot.specs.Greatest.{IsIn}
use Rattle.protocol.specs.Basics.{Fact}
use Rattle.safety.specs.Vocabulary.{NodeId, Event, Ask, Deliver, Restart, Timeout, Done, Refused}
use Rattle.safety.specs.Standing.{facts_at, facts_of}
use Rattle.safety.proofs.World.Growth.{same_node}
use Rattle.safety.proofs.World.NodePlaces.{node_there, node_elsewhere}
use Rattle.safety.proofs.World.Outcomes.{step_is}
use Rattle.protocol.specs.Effects.{Config}
use Rattle.protocol.specs.Nodes.{NodeState, Input, Asked, Received, NoFault, Outcome, node_step, effect_of, all_play, answer_outcome}
use Rattle.protocol.specs.Nodes.{down_node, empty_memory, restart_outcome}
use Rattle.protocol.specs.Worlds.{World, Datagram, StepResult, node_at, outcome_result, if_found, at_node, datagram_at, with_mark}
use Rattle.protocol.specs.Worlds.{world_step, world_after}
use Rattle.protocol.proofs.Lists.{IsIn-before}
use Rattle.progress.specs.Runs.{happens_at, are_at, without_fault}

-- facts stay, and nodes that pass no test are as they were
pub record Keeps (config : Config) (touched : NodeId → Type 0) (before after : World) : Type 0 where
  pub kept : (n : NodeId) (fact : Fact) → IsIn (facts_at config before n) fact → IsIn (facts_at config after n) fact
  pub others : (n : NodeId) → (touched n → ⊥) → node_at config after n ≡ node_at config before n

keeps_all : (config : Config) (touched : NodeId → Type 0) (world : World) → Keeps config touched world world
keeps_all config touched world = record { kept = λ n fact h. h; others = λ n apart. refl }

-- ---- one node

module _ (config : Config) (world : World) (who : NodeId) where
  abbrev IsWho : NodeId → Type 0
  IsWho n = n ≡ who

  module _ (node : NodeState) (is : node_at config world who ≡ Some node) (left : Outcome)
      (grows : (fact : Fact) → IsIn node.facts fact → IsIn left.node.facts fact) where
    abbrev after : World
    after = (outcome_result config world who node.facts left).world

    kept_here : (fact : Fact) → IsIn (facts_at config world who) fact → IsIn (facts_at config after who) fact
    kept_here fact h =
        subst (λ (o : Option NodeState). IsIn (facts_of o) fact) (sym (node_there config world who node left.node is))
        (grows fact (subst (λ (o : Option NodeState). IsIn (facts_of o) fact) is h))

    outcome_keeps : Keeps config IsWho world after
    outcome_keeps = record {
      kept = λ n fact h. elim (same_node n who) [
        | inl same ↦ subst (λ (k : NodeId). IsIn (facts_at config world k) fact → IsIn (facts_at config after k) fact) (sym same)
            (kept_here fact) h
        | inr apart ↦
            subst (λ (o : Option NodeState). IsIn (facts_of o) fact) (sym (node_elsewhere config world who n left.node apart)) h
      ];
      others = λ n apart. node_elsewhere config world who n left.node apart;
    }

  found_keeps : (f : NodeState → StepResult)
      → ((node : NodeState) → node_at config world who ≡ Some node → Keeps config IsWho world (f node).world)
      → (o : Option NodeState) → node_at config world who ≡ o → Keeps config IsWho world (if_found world f o).world
  found_keeps f each None is = keeps_all config IsWho world
  found_keeps f each (Some node) is = each node is

  left_facts : (node : NodeState) (input : Input) (fact : Fact) → IsIn node.facts fact
      → IsIn (node_step config who node input NoFault).node.facts fact
  left_facts node input fact h =
      let added = option_to_list (effect_of config who node.facts node.memory input).fact in
      elim (step_is config who node input NoFault) [
        | inl same ↦ subst (λ (facts : List Fact). IsIn facts fact) (sym same.facts) h
        | inr rest ↦ elim rest [
          | inl stopped ↦ subst (λ (facts : List Fact). IsIn facts fact) (sym stopped.facts) (IsIn-before node.facts added fact h)
          | inr finished ↦ subst (λ (facts : List Fact). IsIn facts fact) (sym finished.facts) (IsIn-before node.facts added fact h)
        ]
      ]

  input_keeps : (input : Input) → Keeps config IsWho world (at_node config world who input NoFault).world
  input_keeps input =
      found_keeps (λ node. outcome_result config world who node.facts (node_step config who node input NoFault))
      (λ node is. outcome_keeps node is (node_step config who node input NoFault) (left_facts node input)) (node_at config world who) refl

  restarted_facts : (node : NodeState) (fact : Fact) → IsIn node.facts fact → IsIn (restart_outcome config who node NoFault).node.facts fact
  restarted_facts node fact h =
      cond_both (all_play config who [] node.facts)
      (answer_outcome (record { facts = node.facts; up = true; tear = node.tear; memory = empty_memory }) Done)
      (answer_outcome (down_node node) (Refused Damaged)) (λ (left : Outcome). IsIn left.node.facts fact) (λ plays. h) (λ damaged. h)

  restart_keeps : Keeps config IsWho world (world_step config world (Restart who) NoFault).world
  restart_keeps =
      found_keeps (λ node. outcome_result config world who node.facts (restart_outcome config who node NoFault))
      (λ node is. outcome_keeps node is (restart_outcome config who node NoFault) (restarted_facts node)) (node_at config world who) refl

-- ---- one event

module _ (config : Config) (world : World) (tx : TxParts) (who : NodeId) where
  same_who : (t : Bool) (w : NodeId) → (if t then Some w else None) ≡ Some who → w ≡ who
  same_who true w e = cc (e)
  same_who false w e = absurd (cc (e))

  delivery_keeps : (n : ℕ) (o : Option Datagram) → option_map (λ d. d.receiver) o ≡ Some who
      → Keeps config (IsWho config world who) world
      (if_found world (λ d. at_node config (with_mark world n) d.receiver (Received d.message) NoFault) o).world
  delivery_keeps n None e = absurd (cc (e))
  delivery_keeps n (Some d) e =
      let receiver : d.receiver ≡ who = cc (e) in
      subst (λ (w : NodeId). Keeps config (IsWho config world w) world
      (at_node config (with_mark world n) d.receiver (Received d.message) NoFault).world) receiver
      (let kept = input_keeps config (with_mark world n) d.receiver (Received d.message) in
      record { kept = kept.kept; others = kept.others })

  event_keeps : (event : Event) → happens_at world tx event ≡ Some who
      → Keeps config (IsWho config world who) world (world_step config world event NoFault).world
  event_keeps (Restart w) e =
      let same : w ≡ who = cc (e) in
      subst (λ (k : NodeId). Keeps config (IsWho config world k) world (world_step config world (Restart w) NoFault).world) same
      (restart_keeps config world w)
  event_keeps (Ask w (Timeout other)) e =
      subst (λ (k : NodeId). Keeps config (IsWho config world k) world (world_step config world (Ask w (Timeout other)) NoFault).world)
      (same_who (tx_eq tx other) w e) (input_keeps config world w (Asked (Timeout other)))
  event_keeps (Deliver n) e = delivery_keeps n (datagram_at world.net n) e
  event_keeps event e = absurd (cc (e))

-- ---- a run

module _ (config : Config) (part : NodeId → Bool) (tx : TxParts) where
  abbrev pub TakesPart : NodeId → Type 0
  TakesPart n = part n ≡ true

  keeps_on : (before middle last : World) (who : NodeId) → part who ≡ true → Keeps config (IsWho config before who) before middle
      → Keeps config TakesPart middle last → Keeps config TakesPart before last
  keeps_on before middle last who takes first rest = record {
    kept = λ n fact h. rest.kept n fact (first.kept n fact h);
    others = λ n apart. rest.others n apart
        ∙ first.others n (λ e. apart (subst (λ (k : NodeId). part k ≡ true) (sym e) takes));
  }

  there : (o : Option NodeId) → option_map_or part o false ≡ true → (who : NodeId) × (o ≡ Some who) × (part who ≡ true)
  there None h = absurd (cc (h))
  there (Some who) h = (who, refl, h)

  pub run_keeps : (world : World) (events : List Event) → are_at config part tx world events ≡ true
      → Keeps config TakesPart world (world_after config world (without_fault events))
  run_keeps world [] at = keeps_all config TakesPart world
  run_keeps world (event ∷ events) at =
      let after : World = (world_step config world event NoFault).world in
      let parts = and_parts (option_map_or part (happens_at world tx event) false) (are_at config part tx after events) at in
      let here = there (happens_at world tx event) parts.0 in
      keeps_on world after (world_after config after (without_fault events)) here.0 here.2
      (event_keeps config world tx here.0 event here.1) (run_keeps after events parts.1)
