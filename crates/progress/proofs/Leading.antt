-- Runs put one after the other, until a goal is reached or for each thing of a list.
use Rattle.std.proofs.Common.{◌≡◌, ◌⊎◌, inl, inr, ◌∙◌, ℕ, Bool, true, false, List, [], ◌∷◌, Option, Some, None, refl, ap, subst}
use Rattle.std.specs.Option.{option_map_or}
use Rattle.std.proofs.lemmas.Bool.{and_from, and_parts}
use Rattle.xid.specs.Transactions.{TxParts}
use Rattle.ballot.specs.Greatest.{IsIn}
use Rattle.safety.specs.Vocabulary.{NodeId, Event, Ask, Deliver, Restart, Outgoing}
use Rattle.protocol.specs.Effects.{Config}
use Rattle.protocol.specs.Nodes.{NodeState, Input, Asked, Received, NoFault, node_step, restart_outcome}
use Rattle.protocol.specs.Worlds.{World, Datagram, node_at, at_node, if_found, outcome_result, datagram_at, mark_at, with_mark}
use Rattle.protocol.specs.Worlds.{world_step, world_after}
use Rattle.progress.specs.Runs.{happens_at, are_at, without_fault, Leads}
use Rattle.progress.proofs.Mail.{mail, marked_mail, datagram_in}
use Rattle.progress.proofs.Backed.{IsBacked, backing_node, backed_after, backed_marked}
use Rattle.progress.proofs.Steps.{IsMoved, HasStep, ComesThere, asked_there, received_there}

module _ (config : Config) (part : NodeId → Bool) (tx : TxParts) where
  pub leads_now : (P : World → Type 0) (world : World) → P world → Leads config part tx P world
  leads_now P world h = record { events = []; at = refl; holds = h }

  -- one event, and then others
  pub leads_step : (P : World → Type 0) (world : World) (who : NodeId) (node : NodeState) (sends : List Outgoing) → part who ≡ true
      → HasStep config world tx who node sends
      → ((after : World) → IsMoved config world after who node sends → Leads config part tx P after)
      → Leads config part tx P world
  leads_step P world who node sends takes step next =
      let after : World = (world_step config world step.event NoFault).world in
      let rest = next after step.moved in
      record {
        events = step.event ∷ rest.events;
        at = and_from (option_map_or part (happens_at world tx step.event) false) (are_at config part tx after rest.events)
            (ap (λ (o : Option NodeId). option_map_or part o false) step.happens ∙ takes) rest.at;
        holds = rest.holds;
      }

  -- some events, and then others
  pub leads_on : (Q P : World → Type 0) → ((after : World) → Q after → Leads config part tx P after) → (world : World) (events : List Event)
      → are_at config part tx world events ≡ true → Q (world_after config world (without_fault events)) → Leads config part tx P world
  leads_on Q P next world [] at holds = next world holds
  leads_on Q P next world (event ∷ events) at holds =
      let after : World = (world_step config world event NoFault).world in
      let parts = and_parts (option_map_or part (happens_at world tx event) false) (are_at config part tx after events) at in
      let rest = leads_on Q P next after events parts.1 holds in
      record {
        events = event ∷ rest.events;
        at = and_from (option_map_or part (happens_at world tx event) false) (are_at config part tx after rest.events) parts.0 rest.at;
        holds = rest.holds;
      }

  -- to a world where the goal is reached, or where this holds
  abbrev pub Comes : (Goal P : World → Type 0) → World → Type 0
  Comes Goal P = Leads config part tx (λ after. Goal after ⊎ P after)

  module _ (Goal : World → Type 0) where
    pub comes_now : (P : World → Type 0) (world : World) → P world → Comes Goal P world
    comes_now P world h = leads_now (λ after. Goal after ⊎ P after) world (inr h)

    pub comes_goal : (P : World → Type 0) (world : World) → Goal world → Comes Goal P world
    comes_goal P world h = leads_now (λ after. Goal after ⊎ P after) world (inl h)

    pub comes_step : (P : World → Type 0) (world : World) (who : NodeId) (node : NodeState) (sends : List Outgoing) → part who ≡ true
        → HasStep config world tx who node sends
        → ((after : World) → IsMoved config world after who node sends → Comes Goal P after)
        → Comes Goal P world
    comes_step P = leads_step (λ after. Goal after ⊎ P after)

    pub comes_on : (Q P : World → Type 0) (world : World) → Comes Goal Q world → ((after : World) → Q after → Comes Goal P after)
        → Comes Goal P world
    comes_on Q P world first next =
        leads_on (λ after. Goal after ⊎ Q after) (λ after. Goal after ⊎ P after) by_case world first.events first.at first.holds
      where
        by_case : (after : World) → Goal after ⊎ Q after → Comes Goal P after
        by_case after (inl goal) = comes_goal P after goal
        by_case after (inr h) = next after h

    -- what a step for one thing of a list comes to: this is done, and what was done stays so
    abbrev pub IsDoneFor : {X : Type 0} (I : World → Type 0) (Done : X → World → Type 0) (x : X) (before after : World) → Type 0
    IsDoneFor {X} I Done x before after = I after × Done x after × ((y : X) → Done y before → Done y after)

    abbrev pub AreDone : {X : Type 0} (I : World → Type 0) (Done : X → World → Type 0) (xs : List X) (before after : World) → Type 0
    AreDone {X} I Done xs before after =
        I after × ((x : X) → IsIn xs x → Done x after) × ((y : X) → Done y before → Done y after)

    module _ {X : Type 0} (I : World → Type 0) (Done : X → World → Type 0) where
      each_on : (xs : List X)
          → ((x : X) → IsIn xs x → (world : World) → I world → Comes Goal (IsDoneFor I Done x world) world)
          → (world : World) → I world → Comes Goal (AreDone I Done xs world) world
      each_on [] step world h = comes_now (AreDone I Done [] world) world (h, λ x none. absurd none, λ y d. d)
      each_on (x ∷ xs) step world h =
          comes_on (IsDoneFor I Done x world) (AreDone I Done (x ∷ xs) world) world (step x (inl refl) world h)
          (λ middle first. comes_on (AreDone I Done xs middle) (AreDone I Done (x ∷ xs) world) middle
          (each_on xs (λ y k. step y (inr k)) middle first.0)
          (λ after rest. comes_now (AreDone I Done (x ∷ xs) world) after (
            rest.0,
            done_by middle after first.1 rest,
            λ y d. rest.2 y (first.2 y d),
          )))
        where
          done_by : (middle after : World) → Done x middle → AreDone I Done xs middle after → (y : X) → IsIn (x ∷ xs) y → Done y after
          done_by middle after first rest y (inl e) = subst (λ (z : X). Done z after) e (rest.2 x first)
          done_by middle after first rest y (inr k) = rest.1 y k

      -- for each thing of a list in turn
      pub comes_each : (xs : List X)
          → ((x : X) → IsIn xs x → (world : World) → I world → Comes Goal (IsDoneFor I Done x world) world)
          → (world : World) → I world → Comes Goal (λ after. I after × ((x : X) → IsIn xs x → Done x after)) world
      comes_each xs step world h =
          comes_on (AreDone I Done xs world) (λ after. I after × ((x : X) → IsIn xs x → Done x after)) world
          (each_on xs step world h)
          (λ after all. comes_now (λ later. I later × ((x : X) → IsIn xs x → Done x later)) after (all.0, all.1))

-- ---- more nodes take part

module _ (config : Config) (part wider : NodeId → Bool) (tx : TxParts) (more : (who : NodeId) → part who ≡ true → wider who ≡ true) where
  one_at : (o : Option NodeId) → option_map_or part o false ≡ true → option_map_or wider o false ≡ true
  one_at None h = h
  one_at (Some who) h = more who h

  all_at : (world : World) (events : List Event) → are_at config part tx world events ≡ true → are_at config wider tx world events ≡ true
  all_at world [] h = refl
  all_at world (event ∷ events) h =
      let after : World = (world_step config world event NoFault).world in
      let parts = and_parts (option_map_or part (happens_at world tx event) false) (are_at config part tx after events) h in
      and_from (option_map_or wider (happens_at world tx event) false) (are_at config wider tx after events)
      (one_at (happens_at world tx event) parts.0) (all_at after events parts.1)

  pub leads_wider : (P : World → Type 0) (world : World) → Leads config part tx P world → Leads config wider tx P world
  leads_wider P world run = record { events = run.events; at = all_at world run.events run.at; holds = run.holds }

-- ---- backed worlds

module _ (config : Config) (part : NodeId → Bool) (tx : TxParts) where
  module _ (world : World) (b : IsBacked config world) where
    -- an input at a node, where marks were set before
    input_backed : (net : List Datagram) → mail net ≡ mail world.net → (who : NodeId) (input : Input)
        → ((node : NodeState) (is : node_at config world who ≡ Some node)
        → ComesThere config world who node is (node_step config who node input NoFault))
        → (o : Option NodeState) → node_at config world who ≡ o
        → IsBacked config (if_found (record world { net = net })
        (λ node. outcome_result config (record world { net = net }) who node.facts (node_step config who node input NoFault)) o).world
    input_backed net same who input there None is = backed_marked config world b net same
    input_backed net same who input there (Some node) is =
        let left = node_step config who node input NoFault in
        backed_after config world b who node.facts left (there node is b.machine (backing_node config world b who ∙ is) b.sent) net same
        (outcome_result config (record world { net = net }) who node.facts left).world refl

    restart_backed : (who : NodeId) (o : Option NodeState) → node_at config world who ≡ o
        → IsBacked config (if_found world
        (λ node. outcome_result config world who node.facts (restart_outcome config who node NoFault)) o).world
    restart_backed who None is = b
    restart_backed who (Some node) is =
        let left = restart_outcome config who node NoFault in
        backed_after config world b who node.facts left
        (record {
          event = Restart who;
          net = b.machine.net;
          same = refl;
          comes = ap (λ (o : Option NodeState). (if_found b.machine
              (λ found. outcome_result config b.machine who found.facts (restart_outcome config who found NoFault)) o).world)
              (backing_node config world b who ∙ is);
        })
        world.net refl (outcome_result config world who node.facts left).world refl

    delivery_backed : (n : ℕ) (o : Option Datagram) → datagram_at world.net n ≡ o
        → IsBacked config (if_found world (λ d. at_node config (with_mark world n) d.receiver (Received d.message) NoFault) o).world
    delivery_backed n None is = b
    delivery_backed n (Some d) is =
        input_backed (mark_at world.net n) (marked_mail world.net n) d.receiver (Received d.message)
        (λ node here. received_there config world d.receiver node here d.message (datagram_in world.net n d is))
        (node_at config world d.receiver) refl

    next_backed : (event : Event) → option_map_or part (happens_at world tx event) false ≡ true
        → IsBacked config (world_step config world event NoFault).world
    next_backed (Restart who) at = restart_backed who (node_at config world who) refl
    next_backed (Ask who request) at =
        input_backed world.net refl who (Asked request) (λ node here. asked_there config world who node here request)
        (node_at config world who) refl
    next_backed (Deliver n) at = delivery_backed n (datagram_at world.net n) refl
    next_backed event at = absurd (cc (at))

  -- a run from a backed world leads to one
  pub run_backed : (events : List Event) (world : World) → IsBacked config world → are_at config part tx world events ≡ true
      → IsBacked config (world_after config world (without_fault events))
  run_backed [] world b at = b
  run_backed (event ∷ events) world b at =
      let after : World = (world_step config world event NoFault).world in
      let parts = and_parts (option_map_or part (happens_at world tx event) false) (are_at config part tx after events) at in
      run_backed events after (next_backed world b event parts.0) parts.1

  pub leads_backed : (P : World → Type 0) (world : World) → IsBacked config world → Leads config part tx P world
      → Leads config part tx (λ after. IsBacked config after × P after) world
  leads_backed P world b run =
      record { events = run.events; at = run.at; holds = (run_backed run.events world b run.at, run.holds) }
